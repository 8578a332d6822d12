-- A test as a property.
use Rattle.std.specs.Prelude.{◌≡◌, Bool, true, ℕ}

-- the numbers of which f says yes
abbrev pub Yes : (ℕ → Bool) → ℕ → Type 0
Yes f s = f s ≡ true
