-- What the proofs use of a bound and its row, which is row_of b - k at the moment k. A further kind of bound is a case
-- of `meets-iff` and of `beyond`.
use mathlib.Core.Path.{◌≡◌, refl}
use mathlib.Core.Logic.Iff
use mathlib.Core.Logic.{◌↔◌}
use mathlib.Core.List.{List}
use mathlib.Core.Bool.{Bool, true, false≢true}
use Prim.Native.Nat.{ℕ, suc, ◌-◌, ◌≤◌}
use native.Mathlib.Omega.{arith}
use borrow.Author.Tests.{eqb-true, eq-eqb}
use Rattle.base.specs.Yes.{Yes}
use Rattle.base.proofs.Truth.{both_iff}
use Rattle.tctl.specs.Chart.{Arrow}
use Rattle.tctl.specs.Formula.{Bound, at_most, at_least, exactly, Meets}
use Rattle.minutes.specs.Untils.{row_of, met_with, met_at, plain, beyond_of}

-- at the moment k, with m minutes left
pub meets_iff : (b : Bound) (k m : ℕ) → suc m ≡ row_of b - k → (met_with b m ≡ true) ↔ Meets b k
meets_iff (at_most c) k m e = (λ h. omega arith, λ h. refl)
meets_iff (at_least c) k m e = (λ h. absurd (false≢true h), λ h. absurd (let z : ⊥ = omega arith in z))
meets_iff (exactly c) k m e = (λ h. omega (arith, eqb-true m 0 h), λ h. eq-eqb m 0 (omega arith))

pub met_iff :
    (b : Bound) (q : ℕ → Bool) (k m s : ℕ) → suc m ≡ row_of b - k → (met_at b q m s ≡ true) ↔ (Meets b k × Yes q s)
met_iff b q k m s e = both_iff (meets_iff b k m e) Iff.rfl

-- Beyond its row the bound is never met, so that no run meets the until and every run fails it; or it is always met, so
-- that the until has no bound.
pub data Beyond (arrows : List Arrow) (n : ℕ) (all : Bool) (p q : ℕ → Bool) (b : Bound) : Type 0 where
  never :
      ((k : ℕ) → row_of b ≤ k → ¬ Meets b k) →
      ((s : ℕ) → beyond_of arrows n all b p q s ≡ all) →
      Beyond arrows n all p q b
  always :
      ((k : ℕ) → row_of b ≤ k → Meets b k) →
      ((s : ℕ) → beyond_of arrows n all b p q s ≡ plain arrows n all p q n s) →
      Beyond arrows n all p q b

pub beyond : (arrows : List Arrow) (n : ℕ) (all : Bool) (p q : ℕ → Bool) (b : Bound) → Beyond arrows n all p q b
beyond arrows n all p q (at_most c) = never (λ k h m. omega arith) (λ s. refl)
beyond arrows n all p q (at_least c) = always (λ k h. h) (λ s. refl)
beyond arrows n all p q (exactly c) = never (λ k h m. omega arith) (λ s. refl)
