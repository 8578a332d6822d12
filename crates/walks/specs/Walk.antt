-- What following hints makes of the numbers.
use Rattle.std.specs.Prelude.{◌≡◌, Bool, false, List, ℕ, length}
use Rattle.model.specs.Engine.{num}
use Rattle.hints.specs.Values.{tested_of}
use Rattle.ways.specs.declared.Way.{Way}
use Rattle.visits.specs.Moves.{Ready, Went}

-- the numbers moved, or did not; unless moved no value changed
abbrev pub Walks : Way → List ℕ → ℕ → Bool → List ℕ → List ℕ → Type 0
Walks way chart m moved old new =
    (go : ℕ → Bool) → Ready way go old →
    (any : Bool) × (moved ≡ false → any ≡ false) × Went way chart m go any old new

-- the numbers changed at their marks alone
pub record Remarked (old new : List ℕ) : Type 0 where
  pub size : length new ≡ length old
  pub tested : (s : ℕ) → tested_of (num new s) ≡ tested_of (num old s)
