-- What the engine asks of what is lent, and its promise: the model's minutes.
use Rattle.std.specs.Prelude.{◌≡◌, Bool, List, ℕ}
use Rattle.model.specs.Engine.{lowered, raised}
use Rattle.model.specs.Weighed.{weighed}
use Rattle.chart.specs.Bytes.{chart_of}
use Rattle.hints.specs.Values.{values}
use Rattle.ways.specs.declared.Way.{Way}
use Rattle.ways.specs.declared.Way.TheVariants.{Lower, Raise}
use Rattle.ways.specs.Way.{left_over}
use Rattle.visits.specs.Moves.{Given, Ready}

-- a chart that passes checks 1 to 9, and numbers with the sides of some go, by which what is left becomes less
pub record Prepared (way : Way) (chart : List ℕ) (n m : ℕ) (ns : List ℕ) : Type 0 where
  pub given : Given way chart n m ns
  pub go : ℕ → Bool
  pub ready : Ready way go ns

-- what the model makes of minutes, on each way
abbrev pub settled : Way → List ℕ → ℕ → (ℕ → Bool) → List ℕ → List ℕ
settled Lower chart n go vs = lowered (chart_of chart).arrows n go vs
settled (Raise climb) chart n go vs = raised (weighed climb.ticks (chart_of chart).arrows) n climb.cap go vs

-- the minutes that values stand for
abbrev pub minutes_of : Way → List ℕ → List ℕ
minutes_of Lower vs = left_over vs
minutes_of (Raise climb) vs = vs

-- through the states of go the minutes are the model's
pub record AsModel (way : Way) (chart : List ℕ) (n : ℕ) (go : ℕ → Bool) (old new : List ℕ) : Type 0 where
  pub is : minutes_of way (values new) ≡ settled way chart n go (minutes_of way (values old))

-- whatever states are gone through, if the numbers have their sides
abbrev pub AllAsModel : Way → List ℕ → ℕ → List ℕ → List ℕ → Type 0
AllAsModel way chart n old new = (go : ℕ → Bool) → Ready way go old → AsModel way chart n go old new
