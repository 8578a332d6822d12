-- States that are left by an arrow with most above 0, and numbers that tell them.
use Rattle.std.specs.Prelude.{◌≡◌, ◌↔◌, Bool, true, ℕ, ◌<◌, length}
use mathlib.Core.List.{List, Memᴰ}
use Rattle.tctl.specs.Chart.{Chart, Arrow}
use Rattle.tctl.specs.Accepted.{AboveZero}
use Rattle.model.specs.Engine.{num}

-- such an arrow from s
pub record LeftInTime (G : Chart) (s : ℕ) : Type 0 where
  pub arrow : Arrow
  pub drawn : Memᴰ arrow G.arrows
  pub leaves : arrow.start ≡ s
  pub timed : AboveZero arrow.most

-- a state's number is not 0 just if it has one
abbrev pub TimedUnlessZero : Chart → List ℕ → Type 0
TimedUnlessZero G ns = (s : ℕ) → (¬ (num ns s ≡ 0)) ↔ LeftInTime G s

-- r is whether no number is 0
abbrev pub NoneZero : Bool → List ℕ → Type 0
NoneZero r ns = (r ≡ true) ↔ ((s : ℕ) → s < length ns → ¬ (num ns s ≡ 0))
