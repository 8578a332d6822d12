use Rattle.base.specs.Entries.{Entries}
use Rattle.step_table.specs.Table.{row_settled}
use Rattle.step_table.proofs.settle_row.Given as goal

-- Invariant: the numbers before s are those that their sums stand for, or 0.
abbrev pub invariant-loop-s : goal.invariant-loop-s
invariant-loop-s l =
    Entries l.at l.s (row_settled l.target l.p l.q l.at l.initial.table) l.initial.table l.table
