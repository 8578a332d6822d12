-- Where a row lies, by the test on the table's length over n: no product that could pass the range of a number.
use mathlib.Core.Path.{◌≡◌, refl, subst}
use mathlib.Core.Bool.{Bool, true, false, cond, ◌&&◌}
use Prim.Native.Nat.{ℕ, ◌+◌, ◌*◌, ◌/◌, ◌≤◌, ◌<◌}
use native.Mathlib.Nat.{pos_of_ne-zero, suc-mul, div-lt_iff_lt-mul, le-div_iff_mul-le}
use native.Mathlib.Omega.{arith}
use lib.Dec.{leb, ltb}
use borrow.Author.Tests.{leb-true}
use Rattle.call_row.specs.declared.Place.{Place}
use Rattle.call_row.specs.Row.{place_of}

-- t < length / n just where (t + 1) × n ≤ length
pub inside : (length n t : ℕ) → (n ≡ 0 → ⊥) → t < length / n → t * n + n ≤ length
inside length n t h l = subst (λ k. k ≤ length) (suc-mul t n) ((le-div_iff_mul-le (pos_of_ne-zero h)).0 l)

pub outside : (length n t : ℕ) → (n ≡ 0 → ⊥) → length / n ≤ t → length < t * n + n
outside length n t h l = subst (λ k. length < k) (suc-mul t n) ((div-lt_iff_lt-mul (pos_of_ne-zero h)).0 (omega arith))

-- the place of a row lies in the table
pub within : (length n t : ℕ) → (place_of length n t).start + (place_of length n t).size ≤ length
within length n t = lies (ltb 0 n) (leb (t * n + n) length) refl
  where
    at : Bool → Place
    at b = cond b (record { start = t * n; size = n }) (record { start = 0; size = 0 })

    lies :
        (b in_table : Bool) → leb (t * n + n) length ≡ in_table →
        (at (b && in_table)).start + (at (b && in_table)).size ≤ length
    lies true true e = leb-true (t * n + n) length e
    lies true false e = omega arith
    lies false b e = omega arith
