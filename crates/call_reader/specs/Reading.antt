-- What a chart reader hands out. The quoted words are of 01, "Bytes of a chart, a rule and a map".
use Rattle.std.specs.Prelude.{◌≡◌, cond, List, [], ◌∷◌, ℕ, zero, suc, ◌+◌, eqb, Option, Some, None, slice_get}
use Rattle.base.specs.Tabulate.{tabulate}
use Rattle.chart.specs.Bytes.{arrow_count, arrow_words}
use Rattle.chart.specs.Refusals.{chart_refusal}
use Rattle.chart.specs.declared.ArrowWords.{ArrowWords}
use Rattle.call_reader.specs.declared.ChartReader.{ChartReader}
use Rattle.call_reader.specs.declared.Stepped.{Stepped}

-- "the arrows of a chart that passes checks 1 to 9"; "any other bytes" have none
unfoldable pub arrows_in : List ℕ → List ArrowWords
arrows_in s = cond (eqb (chart_refusal s).number 0) (tabulate (arrow_count s) (arrow_words s)) []

-- what a reader of these bytes at this number "hands out": the arrow with it; past the last one none, "finished"
unfoldable pub handed : List ℕ → ℕ → Option ArrowWords
handed s i = slice_get (arrows_in s) i

-- "the number of the next arrow", once an arrow was handed out; with none left it stays
abbrev pub number_after : Option ArrowWords → ℕ → ℕ
number_after (Some a) i = i + 1
number_after None i = i

-- what is handed out, and the number after it
abbrev pub step_of : List ℕ → ℕ → Stepped
step_of s i = record { handed = handed s i; number = number_after (handed s i) i }

-- a reader after a call: the same bytes, the next number
abbrev pub moved : ChartReader → ChartReader
moved r = record { chart = r.chart; number = (step_of r.chart.now r.number).number }

-- what so many calls answer, one after another, of a reader of these bytes at this number
unfoldable pub answers_of : ℕ → List ℕ → ℕ → List (Option ArrowWords)
answers_of zero s i = []
answers_of (suc k) s i = handed s i ∷ answers_of k s (step_of s i).number

-- "in order from that number", then "finished": call j, counted from 0, answers what stands j past that number
abbrev pub InOrder : Type 0
InOrder = (s : List ℕ) (i k : ℕ) → answers_of k s i ≡ tabulate k (λ j. handed s (i + j))
