-- The laws of sums.
use mathlib.Core.Path.{◌≡◌, refl, ap, ◌∙◌}
use mathlib.Core.Bool.{Bool, true, false, cond}
use mathlib.Core.List.{List, [], ◌∷◌}
use Prim.Native.Nat.{ℕ, zero, suc, ◌+◌, ◌*◌, ◌≤◌, ◌<◌}
use native.Mathlib.Nat.{zero-mul, one-mul}
use native.Mathlib.Omega.{arith}
use lib.ListN.{length, get_or, set}
use lib.Dec.{eqb}
use borrow.Author.Tests.{eqb-true, eqb-false, ne_eqb}
use Rattle.base.specs.Sum.{sum, total}

-- the first term apart
pub sum_suc : (f : ℕ → ℕ) (i : ℕ) → sum f (suc i) ≡ f 0 + sum (λ j. f (suc j)) i
unfolding sum
sum_suc f zero = omega arith
sum_suc f (suc i) = omega (arith, sum_suc f i)

pub sum_same : (f g : ℕ → ℕ) (k : ℕ) → ((v : ℕ) → v < k → f v ≡ g v) → sum f k ≡ sum g k
unfolding sum
sum_same f g zero h = refl
sum_same f g (suc k) h = omega (arith, sum_same f g k (λ v l. h v (omega arith)), h k (omega arith))

pub sum_add : (f g : ℕ → ℕ) (k : ℕ) → sum (λ v. f v + g v) k ≡ sum f k + sum g k
unfolding sum
sum_add f g zero = refl
sum_add f g (suc k) = omega (arith, sum_add f g k)

pub sum_zero : (k : ℕ) → sum (λ v. 0) k ≡ 0
unfolding sum
sum_zero zero = refl
sum_zero (suc k) = omega (arith, sum_zero k)

-- the terms are there, or all are 0
pub sum_cond : (b : Bool) (f g : ℕ → ℕ) (k : ℕ) → sum (λ v. cond b (f v) 0 * g v) k ≡ cond b (sum (λ v. f v * g v) k) 0
sum_cond true f g k = refl
sum_cond false f g k = sum_same (λ v. 0 * g v) (λ v. 0) k (λ v l. zero-mul (g v)) ∙ sum_zero k

-- of the terms that t chooses there is none before it, and one after it
sum_none : (t : ℕ) (g : ℕ → ℕ) (k : ℕ) → k ≤ t → sum (λ v. cond (eqb t v) 1 0 * g v) k ≡ 0
sum_none t g k h =
    sum_same (λ v. cond (eqb t v) 1 0 * g v) (λ v. 0) k
    (λ v l. rw (ne_eqb t v (λ e. absurd (let z : ⊥ = omega arith in z))) (zero-mul (g v))) ∙
    sum_zero k

pub sum_one : (t : ℕ) (g : ℕ → ℕ) (k : ℕ) → t < k → sum (λ v. cond (eqb t v) 1 0 * g v) k ≡ g t
unfolding sum
sum_one t g zero h = absurd (let z : ⊥ = omega arith in z)
sum_one t g (suc k) h = turn (eqb t k) refl (λ l. sum_one t g k l)
  where
    turn :
        (b : Bool) → eqb t k ≡ b → (t < k → sum (λ v. cond (eqb t v) 1 0 * g v) k ≡ g t) →
        sum (λ v. cond (eqb t v) 1 0 * g v) k + cond b 1 0 * g k ≡ g t
    turn true e ih =
        let f = eqb-true t k e in
        omega (arith, sum_none t g k (omega arith), one-mul (g k), ap g f)
    turn false e ih =
        let f = eqb-false t k e in
        omega (arith, ih (omega arith), zero-mul (g k))

-- the sum over a list after one entry is set
pub total_set :
    (f : ℕ → ℕ) (l : List ℕ) (i v : ℕ) → i < length l → total f (set l i v) + f (get_or l i 0) ≡ total f l + f v
total_set f [] i v h = absurd (let z : ⊥ = omega arith in z)
total_set f (x ∷ l) zero v h = omega arith
total_set f (x ∷ l) (suc i) v h = omega (arith, total_set f l i v (omega arith))
