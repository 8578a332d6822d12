use mathlib.Core.Path.{◌≡◌}
use Prim.Native.Nat.{◌+◌}
use lib.ListN.{length}
use Rattle.base.specs.Entries.{Entries}
use Rattle.step_numbers.specs.declared.Measure.{Measure}
use Rattle.step_table.specs.Table.{Weights, RowLow}
use Rattle.step_table.proofs.Sweep.{raised_by}
use Rattle.step_table.proofs.relax_all.Given as goal

-- Invariant: the row after is raised to the best of the arrows before i.
abbrev pub invariant-loop-i : goal.invariant-loop-i
invariant-loop-i l =
    (length l.table ≡ length l.initial.table) × RowLow l.chart.states l.at l.table ×
    ((measure : Measure) → Weights measure l.chart.bytes.now l.weights →
    Entries (l.at + l.chart.states) l.chart.states
    (raised_by measure l.chart.bytes.now l.at l.chart.states l.initial.table l.i)
    l.initial.table l.table)
