use Prim.Native.Nat.{◌*◌}
use Rattle.base.specs.Entries.{Entries}
use Rattle.exact_table.specs.Lowered.{row_begun}
use Rattle.exact_table.proofs.begin.Given as goal

-- Invariant: the numbers of the states before s are as the row begins.
abbrev pub invariant-loop-s : goal.invariant-loop-s
invariant-loop-s l =
    Entries (l.minute * l.n) l.s (row_begun l.minute l.q) l.initial.table l.table
