use Prim.Native.Nat.{◌*◌}
use Rattle.base.specs.Entries.{Entries}
use Rattle.minute_rows.specs.Filled.{row_begun}
use Rattle.minute_rows.proofs.begin.Given as goal

-- Invariant: the numbers of the states before s are as the row begins.
abbrev pub invariant-loop-s : goal.invariant-loop-s
invariant-loop-s l =
    Entries (l.minute * l.n) l.s (row_begun l.all l.met l.n l.minute l.p l.q l.beyond l.initial.numbers)
    l.initial.numbers l.numbers
