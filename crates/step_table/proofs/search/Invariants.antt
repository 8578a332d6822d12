use mathlib.Core.Path.{◌≡◌}
use mathlib.Core.Bool.{false}
use Prim.Native.Nat.{ℕ, ◌<◌}
use lib.ListN.{length}
use Rattle.model.specs.Marks.{flag}
use Rattle.chart.specs.Bytes.{chart_of}
use Rattle.shown.specs.Steps.{enough}
use Rattle.step_numbers.specs.Target.{quest_for}
use Rattle.step_table.specs.Table.{Tabled}
use Rattle.step_table.proofs.search.Given as goal

-- Invariant: rows 0 to k are in the table, and no row before row k is enough.
abbrev pub invariant-loop-k : goal.invariant-loop-k
invariant-loop-k l =
    let z = quest_for l.target (flag l.p) (flag l.q) in
    (length l.table ≡ length l.initial.table) ×
    Tabled (chart_of l.chart.bytes.now) l.target.measure z l.chart.states l.k l.table ×
    ((j : ℕ) → j < l.k → enough (chart_of l.chart.bytes.now).arrows z l.s j ≡ false)
