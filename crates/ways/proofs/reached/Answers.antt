-- The three cases: a leap, an offer from the ceiling on, and one below it.
use native.Mathlib.Omega.{arith}
use Rattle.ways.proofs.Reaching.{low_ceiling, reach_leap, reach_full, reach_part}
use Rattle.ways.proofs.reached.Goals as goal

pub overflow_add-result : goal.overflow_add-result
overflow_add-result c = omega (arith, low_ceiling c.args.way c.requires)

pub returns-then-leaps : goal.returns-then-leaps
returns-then-leaps c =
    reach_leap c.args.way c.requires c.args.v c.leaps.ensures c.if-leaps.true (omega arith)

pub overflow_add-result-then-c-v : goal.overflow_add-result-then-c-v
overflow_add-result-then-c-v c = omega (arith, low_ceiling c.args.way c.requires)

pub returns-then-c-v : goal.returns-then-c-v
returns-then-c-v c =
    reach_full c.args.way c.requires c.args.v c.leaps.ensures c.if-leaps.false (omega arith) (omega arith)

pub returns : goal.returns
returns c = reach_part c.args.way c.requires c.args.v c.leaps.ensures c.if-leaps.false (omega arith)
