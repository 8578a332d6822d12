-- The laws of `latest`: whether a yes is in a window, and what the last answer is.
use mathlib.Core.Path.{◌≡◌, refl, sym, subst, ◌∙◌}
use mathlib.Core.Logic.{◌↔◌, ◌⊎◌, inl, inr, by_cases}
use mathlib.Core.Bool.{Bool, true, false, false≢true}
use Prim.Native.Nat.{ℕ, zero, suc, ◌-◌, ◌≤◌, ◌<◌}
use native.Mathlib.Omega.{arith}
use native.Mathlib.Decide.{dec_le}
use Rattle.base.proofs.Truth.{true_or_false, cond_elim}
use Rattle.minutes.specs.Table.{latest}

module _ (f : ℕ → Bool) where
  pub latest_here : (k : ℕ) → f k ≡ true → latest f (suc k) ≡ suc k
  unfolding latest
  latest_here k e = rw e

  pub latest_not : (k : ℕ) → f k ≡ false → latest f (suc k) ≡ latest f k
  unfolding latest
  latest_not k e = rw e

  pub latest_le : (k : ℕ) → latest f k ≤ k
  unfolding latest
  latest_le zero = omega arith
  latest_le (suc k) = cond_elim (λ v. v ≤ suc k) (f k) (λ e. omega arith) (λ e. omega (arith, latest_le k))

  -- the number above 0 is that of a yes
  latest_yes : (k i : ℕ) → latest f k ≡ suc i → (i < k) × (f i ≡ true)
  unfolding latest
  latest_yes zero i h = absurd (let z : ⊥ = omega arith in z)
  latest_yes (suc k) i h = turn (latest_yes k i) (true_or_false (f k))
    where
      turn :
          (latest f k ≡ suc i → (i < k) × (f i ≡ true)) → (f k ≡ true) ⊎ (f k ≡ false) → (i < suc k) × (f i ≡ true)
      turn ih (inl e) =
          let z : k ≡ i = omega (arith, latest_here k e) in
          (omega arith, subst (λ j. f j ≡ true) z e)
      turn ih (inr e) =
          let w = ih (omega (arith, latest_not k e)) in
          (omega (arith, w.0), w.1)

  -- no yes comes after it
  latest_above : (k i : ℕ) → i < k → f i ≡ true → i < latest f k
  unfolding latest
  latest_above zero i l e = absurd (let z : ⊥ = omega arith in z)
  latest_above (suc k) i l e =
      let ih : i < k → i < latest f k = λ j. latest_above k i j e in
      let last : f k ≡ false → ¬ (i < k) → ⊥ =
      λ h j. let z : i ≡ k = omega arith in false≢true (sym h ∙ subst (λ j. f j ≡ true) z e) in
      cond_elim (λ v. i < v) (f k) (λ h. omega arith)
      (λ h. by_cases (dec_le (suc i) k) ih (λ j. absurd (last h j)))

  -- the last answer is yes just where the number is as high as it can be
  pub latest_iff : (k : ℕ) → (latest f (suc k) ≡ suc k) ↔ (f k ≡ true)
  latest_iff k = (λ h. (latest_yes (suc k) k h).1, latest_here k)

  -- The last yes below hi is in the window, or none is.
  pub latest_window : (lo hi : ℕ) → (lo < latest f hi) ↔ ((i : ℕ) × (lo ≤ i) × (i < hi) × (f i ≡ true))
  latest_window lo hi = (
    λ h.
        let i = latest f hi - 1 in
        let w = latest_yes hi i (omega arith) in
        (i, omega arith, w.0, w.1),
    λ w. omega (arith, w.1, latest_above hi w.0 w.2 w.3),
  )

-- answers that agree below k
pub latest_local : (f g : ℕ → Bool) (k : ℕ) → ((i : ℕ) → i < k → f i ≡ g i) → latest f k ≡ latest g k
unfolding latest
latest_local f g zero h = refl
latest_local f g (suc k) h =
    let before = latest_local f g k (λ i l. h i (omega arith)) in
    let last = h k (omega arith) in
    cc
