-- Covered arrows of a detail chart.
use Rattle.std.specs.Prelude.{Bool, List, ℕ}
use Rattle.cover.specs.Covered.{mapped_arrow, covered}
use Rattle.chart.specs.Bytes.{arrow_words, arrow_of}
use Rattle.map.specs.Bytes.{entry}

-- arrow i of the chart d, its ends replaced by the states that they stand for by the map p, is covered
abbrev pub covered_at : List ℕ → List ℕ → List ℕ → ℕ → Bool
covered_at d o p i = covered o (mapped_arrow (entry p) (arrow_of (arrow_words d i)))
