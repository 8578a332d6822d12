-- What the functions that fill numbers promise of them.
use Rattle.std.specs.Prelude.{◌≡◌, true, cond, List, ℕ, ◌<◌, length}
use Rattle.model.specs.Engine.{num}
use Rattle.model.specs.Decide.{leads_to}
use Rattle.model.specs.Marks.{flag}
use Rattle.chart.specs.Bytes.{chart_of}
use Rattle.hints.specs.Values.{tested_of}
use Rattle.ways.specs.Way.{top, beside}

-- n numbers have the values and sides that f says; their hints may be anything
pub record Filled (n : ℕ) (f : ℕ → ℕ) (new : List ℕ) : Type 0 where
  pub size : length new ≡ n
  pub here : (s : ℕ) → s < n → tested_of (num new s) ≡ f s

-- the value of each state from which an arrow leads to where good does not hold became the top
abbrev pub Sured : List ℕ → ℕ → List ℕ → List ℕ → List ℕ → Type 0
Sured chart n good old new =
    Filled n (λ s. cond (leads_to (chart_of chart).arrows (flag good) s) (tested_of (num old s)) (beside top true)) new
