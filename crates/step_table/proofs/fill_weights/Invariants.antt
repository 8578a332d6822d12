use mathlib.Core.Path.{◌≡◌}
use Prim.Native.Nat.{ℕ, ◌<◌}
use lib.ListN.{length}
use Rattle.model.specs.Engine.{num}
use Rattle.chart.specs.Bytes.{arrow_words, arrow_of}
use Rattle.chart.specs.Shape.{Slot}
use Rattle.step_numbers.specs.Stored.{weight_of}
use Rattle.step_table.proofs.fill_weights.Given as goal

-- Invariant: the weights of the arrows before i are written.
abbrev pub invariant-loop-i : goal.invariant-loop-i
invariant-loop-i l =
    (length l.weights ≡ length l.initial.weights) ×
    ((j : ℕ) → j < l.i → num l.weights j ≡ weight_of l.measure (arrow_of (arrow_words l.chart.bytes.now j))) ×
    ((j : ℕ) → j < l.i → Slot (arrow_words l.chart.bytes.now j))
