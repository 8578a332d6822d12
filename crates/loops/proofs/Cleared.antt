-- Numbers that are all 0.
use mathlib.Core.Path.{◌≡◌, ◌∙◌}
use mathlib.Core.Logic.{by_cases}
use mathlib.Core.List.{List}
use Prim.Native.Nat.{ℕ, ◌+◌, ◌<◌}
use native.Mathlib.Omega.{arith}
use native.Mathlib.Decide.{dec_le}
use lib.ListN.{length, set, get_or-eq_default}
use lib.Seq.{get_or-set_same, get_or-set_other}
use borrow.Author.Count.{below_more}
use Rattle.model.specs.Engine.{num}

-- one number more is cleared
pub cleared_more :
    (vs : List ℕ) (i : ℕ) → i < length vs → ((s : ℕ) → s < i → num vs s ≡ 0) →
    (s : ℕ) → s < i + 1 → num (set vs i 0) s ≡ 0
cleared_more vs i l f =
    below_more (λ s. num (set vs i 0) s ≡ 0) i
    (λ s h. get_or-set_other vs i s 0 0 (λ e. let z : ⊥ = omega arith in z) ∙ f s h)
    (get_or-set_same vs i 0 0 l)

-- past the last there is no number, which reads as 0
pub cleared_all : (vs : List ℕ) → ((s : ℕ) → s < length vs → num vs s ≡ 0) → (s : ℕ) → num vs s ≡ 0
cleared_all vs f s = by_cases (dec_le (length vs) s) (get_or-eq_default vs 0) (λ h. f s (omega arith))
