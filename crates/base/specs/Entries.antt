-- Entries of a list that are written one after another.
use Rattle.std.specs.Prelude.{◌≡◌, ◌⊎◌, List, ℕ, ◌+◌, ◌≤◌, ◌<◌, length, get_or}

-- count entries from a place on were written, as f says of 0, 1, ..; all else is as it was
pub record Entries (at count : ℕ) (f : ℕ → ℕ) (old new : List ℕ) : Type 0 where
  pub size : length new ≡ length old
  pub here : (s : ℕ) → s < count → get_or new (at + s) 0 ≡ f s
  pub elsewhere : (j : ℕ) → (j < at) ⊎ (at + count ≤ j) → get_or new j 0 ≡ get_or old j 0
