-- The sets that words stand for.
use Rattle.std.specs.Prelude.{◌≡◌, Bool, ◌||◌, ℕ, ◌/◌, ◌%◌, ◌^◌, eqb}

-- v is in the set: bit v is 1
unfoldable pub member : ℕ → ℕ → Bool
member mask v = eqb (mask / 2 ^ v % 2) 1

-- the new set has v and what the old one has
pub record Put (v : ℕ) (old new : ℕ) : Type 0 where
  pub tells : (u : ℕ) → member new u ≡ (eqb v u || member old u)
