use Rattle.base.specs.Entries.{Entries}
use Rattle.step_table.specs.Table.{row_base}
use Rattle.step_table.proofs.first_row.Given as goal

-- Invariant: the numbers before s are the base's, as they are stored.
abbrev pub invariant-loop-s : goal.invariant-loop-s
invariant-loop-s l =
    Entries 0 l.s (row_base l.target l.p l.q) l.initial.table l.table
