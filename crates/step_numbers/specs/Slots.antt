-- The size of a chart's slots.
use Rattle.std.specs.Prelude.{List, ℕ, ◌<◌}
use Rattle.chart.specs.Bytes.{arrow_count, arrow_words}
use Rattle.chart.specs.Shape.{Slot}

-- the slot of each arrow is in range, as reading its words tells
abbrev pub Slots : List ℕ → Type 0
Slots chart = (i : ℕ) → i < arrow_count chart → Slot (arrow_words chart i)
