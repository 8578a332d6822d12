-- Which of the first k nodes have an exact bound.
use mathlib.Core.Path.{◌≡◌, refl, sym, subst, ◌∙◌}
use mathlib.Core.Logic.{by_cases}
use mathlib.Core.Bool.{Bool, true, false, false≢true}
use mathlib.Core.List.{List}
use Prim.Native.Nat.{ℕ, zero, suc, ◌<◌}
use native.Mathlib.Omega.{arith}
use native.Mathlib.Decide.{dec_le}
use Rattle.base.proofs.Truth.{or_false}
use Rattle.rule.specs.Bytes.{node_words}
use Rattle.rule.specs.Refusals.{is_exact, exact_in}

module _ (s : List ℕ) where
  pub exact_none : (k : ℕ) → exact_in s k ≡ false → (t : ℕ) → t < k → is_exact (node_words s t) ≡ false
  unfolding exact_in
  exact_none zero e t l = absurd (let z : ⊥ = omega arith in z)
  exact_none (suc k) e t l =
      let parts = or_false (exact_in s k) (is_exact (node_words s k)) e in
      by_cases (dec_le (suc t) k) (exact_none k parts.0 t)
      (λ h. let z : k ≡ t = omega arith in subst (λ u. is_exact (node_words s u) ≡ false) z parts.1)

  pub none_exact : (k : ℕ) → ((t : ℕ) → t < k → is_exact (node_words s t) ≡ false) → exact_in s k ≡ false
  unfolding exact_in
  none_exact zero h = refl
  none_exact (suc k) h = rw (none_exact k (λ t l. h t (omega arith)), h k (omega arith))

  pub exact_some : (k t : ℕ) → t < k → is_exact (node_words s t) ≡ true → exact_in s k ≡ true
  exact_some k t l e = turn (exact_in s k) refl
    where
      turn : (b : Bool) → exact_in s k ≡ b → exact_in s k ≡ true
      turn true h = h
      turn false h = absurd (false≢true (sym (exact_none k h t l) ∙ e))
