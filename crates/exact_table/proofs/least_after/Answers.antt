-- Invariant: it is the least of the durations before d.
use native.Mathlib.Omega.{arith}
use Rattle.exact_table.proofs.Least.{least_more, least_all}
use Rattle.exact_table.proofs.least_after.Goals as goal

pub loop-d-preserved : goal.loop-d-preserved
loop-d-preserved c = least_more c.loop-d.invariant c.loop-d.auto.d (omega arith) c.min-least.ensures

pub returns : goal.returns
returns c = least_all c.args.w _ c.min-last.ensures (omega arith) c.loop-d.invariant
