use mathlib.Core.Path.{◌≡◌}
use lib.ListN.{length}
use Rattle.chart.specs.Bytes.{chart_of}
use Rattle.minute_rows.specs.Numbers.{task_in}
use Rattle.minute_rows.specs.Filled.{RowsFilled}
use Rattle.minute_rows.proofs.fill_rows_from.Given as goal

-- Invariant: the rows with fewer minutes left are filled.
abbrev pub invariant-loop-minute : goal.invariant-loop-minute
invariant-loop-minute l =
    (length l.numbers ≡ length l.initial.numbers) ×
    RowsFilled (chart_of l.chart.bytes.now) l.chart.states (task_in l.asked l.p l.q l.beyond) l.minute l.numbers
