-- The lowest offender: found just where it offends and nothing below it does.
use mathlib.Core.Path.{◌≡◌, refl, sym, ap, subst, ◌∙◌}
use mathlib.Core.Logic.{◌↔◌}
use mathlib.Core.Bool.{Bool, true, false, false≢true}
use mathlib.Core.Option.{Option, none, some, none-ne-some}
use Prim.Native.Nat.{ℕ, zero, suc, ◌+◌, ◌-◌, ◌<◌}
use native.Mathlib.Decide.{ℕ_discrete}
use native.Mathlib.Omega.{arith}
use Rattle.outcome.specs.Refusal.{found, or_else, lowest}
use Rattle.outcome.proofs.Found.{or_none}

-- i is the least number below k of which p says yes
pub record Least (p : ℕ → Bool) (k i : ℕ) : Type 0 where
  pub inside : i < k
  pub offends : p i ≡ true
  pub under : (j : ℕ) → j < i → p j ≡ false

module _ (p : ℕ → Bool) where
  pub none_below : (k : ℕ) → lowest p k ≡ none → (i : ℕ) → i < k → p i ≡ false
  unfolding lowest
  none_below zero e i l = absurd (let z : ⊥ = omega arith in z)
  none_below (suc k) e i l = turn (or_none (lowest p k) (p k) k e) (none_below k) (ℕ_discrete i k)
    where
      turn :
          (lowest p k ≡ none) × (p k ≡ false) →
          (lowest p k ≡ none → (i : ℕ) → i < k → p i ≡ false) →
          Dec (i ≡ k) →
          p i ≡ false
      turn h ih (yes d) = subst (λ x. p x ≡ false) (sym d) h.1
      turn h ih (no d) = ih h.0 i (omega arith)

  pub lowest_none : (k : ℕ) → ((i : ℕ) → i < k → p i ≡ false) → lowest p k ≡ none
  unfolding lowest
  lowest_none zero f = refl
  lowest_none (suc k) f = rw (lowest_none k (λ i l. f i (omega arith)), f k (omega arith))

  -- an offender found stays the lowest when more numbers are asked
  lowest_more : (d k i : ℕ) → lowest p k ≡ some i → lowest p (d + k) ≡ some i
  unfolding lowest
  lowest_more zero k i e = ap (lowest p) (let z : 0 + k ≡ k = omega arith in z) ∙ e
  lowest_more (suc d) k i e =
      let z : suc d + k ≡ suc (d + k) = omega arith in
      ap (lowest p) z ∙ ap (λ o. or_else o (p (d + k)) (d + k)) (lowest_more d k i e)

  pub lowest_some : {k i : ℕ} → Least p k i → lowest p k ≡ some i
  unfolding lowest
  lowest_some {k} {i} h =
      let here : lowest p (suc i) ≡ some i = rw (lowest_none i h.under, h.offends) in
      let z : (k - suc i) + suc i ≡ k = omega (arith, h.inside) in
      ap (lowest p) (sym z) ∙ lowest_more (k - suc i) (suc i) i here

  pub some_lowest : (k i : ℕ) → lowest p k ≡ some i → Least p k i
  unfolding lowest
  some_lowest zero i e = absurd (none-ne-some i e)
  some_lowest (suc k) i e = turn (some_lowest k i) (lowest p k) refl (p k) refl e
    where
      turn :
          (lowest p k ≡ some i → Least p k i) →
          (o : Option ℕ) →
          lowest p k ≡ o →
          (b : Bool) →
          p k ≡ b →
          or_else o b k ≡ some i →
          Least p (suc k) i
      turn ih (some j) f b g e =
          let h = ih (f ∙ e) in
          record { inside = omega (arith, h.inside); offends = h.offends; under = h.under }
      turn ih none f true g e =
          let z : k ≡ i = cc in
          record { inside = omega arith; offends = ap p (sym z) ∙ g; under = λ j l. none_below k f j (omega arith) }
      turn ih none f false g e = absurd (none-ne-some i e)

  -- an offender below k: there is a lowest one
  pub offender_found : {k i : ℕ} → i < k → p i ≡ true → found (lowest p k) ≡ true
  offender_found {k} {i} l e = turn (lowest p k) refl
    where
      turn : (o : Option ℕ) → lowest p k ≡ o → found o ≡ true
      turn none h = absurd (false≢true (sym (none_below k h i l) ∙ e))
      turn (some j) h = refl

  pub lowest_iff : (k i : ℕ) → (lowest p k ≡ some i) ↔ Least p k i
  lowest_iff k i = (some_lowest k i, λ h. lowest_some h)
