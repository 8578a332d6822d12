use mathlib.Core.Path.{◌≡◌}
use lib.ListN.{length}
use Rattle.exact_table.specs.Rows.{RowsLeft}
use Rattle.exact_table.proofs.fill_steps.Given as goal

-- Invariant: the rows with fewer minutes left are there.
abbrev pub invariant-loop-minute : goal.invariant-loop-minute
invariant-loop-minute l =
    (length l.table ≡ length l.initial.table) × RowsLeft l.chart.bytes.now l.chart.states l.p l.q l.minute l.table
