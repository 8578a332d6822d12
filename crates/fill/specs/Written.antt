-- What the functions that fill promise of the marks.
use Rattle.std.specs.Prelude.{◌≡◌, ◌⊎◌, Bool, List, ℕ, ◌+◌, ◌*◌, ◌≤◌, ◌<◌, length, get_or}
use Rattle.model.specs.Marks.{bit}

-- count marks from a place on were written, as f says of 0, 1, ..; all else is as it was
pub record Written (at count : ℕ) (f : ℕ → Bool) (old new : List ℕ) : Type 0 where
  pub size : length new ≡ length old
  pub here : (s : ℕ) → s < count → get_or new (at + s) 0 ≡ bit (f s)
  pub elsewhere : (j : ℕ) → (j < at) ⊎ (at + count ≤ j) → get_or new j 0 ≡ get_or old j 0

-- the same, by what may be said of 0, 1, ..
pub record WrittenBy (at count : ℕ) (says : ℕ → Bool → Type 0) (old new : List ℕ) : Type 0 where
  pub size : length new ≡ length old
  pub here : (s : ℕ) → s < count → (b : Bool) × says s b × (get_or new (at + s) 0 ≡ bit b)
  pub elsewhere : (j : ℕ) → (j < at) ⊎ (at + count ≤ j) → get_or new j 0 ≡ get_or old j 0

-- row t of a table with n marks a row was written
abbrev pub RowWritten : ℕ → ℕ → (ℕ → Bool) → List ℕ → List ℕ → Type 0
RowWritten n t f old new = Written (t * n) n f old new
