-- Functions that agree below n.
use mathlib.Core.Path.{◌≡◌}
use Prim.Native.Nat.{ℕ, ◌<◌}

abbrev pub Same {ℓ} : {A : Type ℓ} → ℕ → (ℕ → A) → (ℕ → A) → Type ℓ
Same n f g = (s : ℕ) → s < n → f s ≡ g s
