-- How many of n answers say yes: a test that says yes wherever another does, and no more often, is the same.
use mathlib.Core.Path.{◌≡◌, refl, sym, ap, subst}
use mathlib.Core.Logic.{by_cases}
use mathlib.Core.Bool.{Bool, true, false, cond}
use Prim.Native.Nat.{ℕ, zero, suc, ◌≤◌, ◌<◌}
use native.Mathlib.Omega.{arith}
use native.Mathlib.Decide.{dec_le}
use Rattle.base.specs.Sum.{sum}
use Rattle.base.proofs.Truth.{one_le, one_true}

abbrev one : Bool → ℕ
one b = cond b 1 0

-- how many of f 0, .., f (n - 1) say yes
abbrev pub count : (ℕ → Bool) → ℕ → ℕ
count f n = sum (λ s. one (f s)) n

pub count_le : (f : ℕ → Bool) (n : ℕ) → count f n ≤ n
unfolding sum
count_le f zero = omega arith
count_le f (suc n) = omega (arith, count_le f n, one_le (f n))

one_up : (a b : Bool) → (a ≡ true → b ≡ true) → one a ≤ one b
one_up true b h = omega (arith, ap one (h refl))
one_up false b h = omega arith

module _ (f g : ℕ → Bool) where
  pub count_same :
      (n : ℕ) → ((i : ℕ) → i < n → f i ≡ true → g i ≡ true) →
      (count f n ≤ count g n) × (count g n ≤ count f n → (i : ℕ) → i < n → g i ≡ true → f i ≡ true)
  unfolding sum
  count_same zero h = (omega arith, λ l i k e. absurd (let z : ⊥ = omega arith in z))
  count_same (suc n) h =
      let ih = count_same n (λ i l. h i (omega arith)) in
      let last = one_up (f n) (g n) (h n (omega arith)) in (
        omega (arith, ih.0),
        λ l i k e.
            by_cases (dec_le (suc i) n) (λ m. ih.1 (omega arith) i m e)
            (λ m.
            let z : i ≡ n = omega arith in
            let y = ap one (subst (λ j. g j ≡ true) z e) in
            subst (λ j. f j ≡ true) (sym z) (one_true (f n) (omega (arith, ih.0)))),
      )
