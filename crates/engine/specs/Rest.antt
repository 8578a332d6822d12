-- When no number can rise, and the way that leaps.
use Rattle.std.specs.Prelude.{◌≡◌, Bool, true, List, ℕ, ◌<◌, length}
use Rattle.tctl.specs.Chart.{Arrow}
use Rattle.hints.specs.Values.{values}
use Rattle.ways.specs.declared.Way.{Way}
use Rattle.ways.specs.declared.Way.TheVariants.{Lower, Raise}
use Rattle.ways.specs.Way.{Fits}
use Rattle.visits.specs.Moves.{Ready, Held}

-- if r, no arrow of a chart with a state for each number raises one
pub record AtRest (r : Bool) (way : Way) (ns : List ℕ) : Type 0 where
  pub held :
      r ≡ true → Fits way → (go : ℕ → Bool) → Ready way go ns → (a : Arrow) → a.start < length ns → a.end < length ns →
      Held way go a (values ns) (values ns)

-- the way, with leaps or without
abbrev pub hurried_of : Way → Bool → Way
hurried_of Lower leap = Lower
hurried_of (Raise climb) leap = Raise (record { ticks = climb.ticks; leap = leap; cap = climb.cap })
