-- Invariant: no duration before d leads there.
use native.Mathlib.Omega.{arith}
use Rattle.exact_walk.proofs.Minutes.{minutes_found, minutes_none}
use Rattle.exact_walk.proofs.first_minutes.Goals as goal

pub returns-then-table-row : goal.returns-then-table-row
returns-then-table-row c =
    let a = c.args in
    minutes_found a.a a.left c.requires.1.few a.n a.table.now (omega arith) (omega arith) c.loop-d.auto.d
    c.loop-d.invariant c.if-table-row.true

pub returns : goal.returns
returns c =
    let a = c.args in
    minutes_none a.a a.left c.requires.1.few a.n a.table.now c.min-last.ensures (omega arith) c.loop-d.invariant
