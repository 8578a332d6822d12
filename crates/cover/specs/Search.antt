-- A search for a covering arrow.
use Rattle.std.specs.Prelude.{◌≡◌, true, false, List, ℕ, ◌+◌, ◌*◌, ◌/◌, ◌%◌, ◌≤◌, ◌<◌, Option, Some, None}
use Rattle.tctl.specs.Chart.{Arrow}
use Rattle.chart.specs.Bytes.{arrow_words, arrow_of}
use Rattle.cover.specs.Covered.{covers, covered}

-- the numbers of two states as one: of the four bytes in a row that hold them, the first counts ones
abbrev pub ends_word : ℕ → ℕ → ℕ
ends_word x y = x / 256 + (x % 256 + (y / 256 + y % 256 * 256) * 256) * 256

-- no arrow of the chart o from lo on and before hi covers want
abbrev pub Uncovered : List ℕ → Arrow → ℕ → ℕ → Type 0
Uncovered o want lo hi = (j : ℕ) → lo ≤ j → j < hi → covers want (arrow_of (arrow_words o j)) ≡ false

-- r is the first arrow of the chart o from lo on and before hi that covers want, and there is none where none does
abbrev pub CoverBetween : List ℕ → Arrow → ℕ → ℕ → Option ℕ → Type 0
CoverBetween o want lo hi (Some r) =
    (r < hi) × Uncovered o want lo r × (covers want (arrow_of (arrow_words o r)) ≡ true)
CoverBetween o want lo hi None = Uncovered o want lo hi

-- an arrow of the l of the chart o was found just where want is covered
abbrev pub CoveredBy : List ℕ → Arrow → ℕ → Option ℕ → Type 0
CoveredBy o want l (Some r) = (r < l) × (covered o want ≡ true)
CoveredBy o want l None = covered o want ≡ false
