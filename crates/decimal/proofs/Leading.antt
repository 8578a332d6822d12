-- A number's text has no leading zero.
use mathlib.Core.Path.{◌≡◌, refl}
use mathlib.Core.Bool.{Bool, true, false, cond}
use mathlib.Core.List.{List, [], ◌∷◌, ◌++◌}
use Prim.Native.Nat.{ℕ, zero, suc, ◌+◌, ◌/◌, ◌%◌, ◌<◌}
use native.Mathlib.Omega.{arith}
use lib.ListN.{get_or}
use lib.Dec.{ltb}
use borrow.Author.Tests.{ltb-true, ltb-false}
use Rattle.decimal.specs.Decimal.{digits_by, decimal}

-- a text that begins with a digit above 0 goes on beginning with it
begins : (s t : List ℕ) → 48 < get_or s 0 0 → 48 < get_or (s ++ t) 0 0
begins [] t h = absurd (omega arith)
begins (d ∷ s) t h = h

begins_by : (most x : ℕ) → x < most → 0 < x → 48 < get_or (digits_by most x) 0 0
unfolding digits_by
begins_by zero x h p = absurd (omega arith)
begins_by (suc most) x h p = turn (begins_by most (x / 10)) (ltb x 10) refl
  where
    turn :
        (x / 10 < most → 0 < x / 10 → 48 < get_or (digits_by most (x / 10)) 0 0) → (c : Bool) → ltb x 10 ≡ c →
        48 < get_or (cond {A = List ℕ} c [] (digits_by most (x / 10)) ++ (48 + x % 10) ∷ []) 0 0
    turn ih true e = let l = ltb-true x 10 e in omega arith
    turn ih false e =
        let l = ltb-false x 10 e in
        begins (digits_by most (x / 10)) _ (ih (omega arith) (omega arith))

pub no_leading_zero : (x : ℕ) → 0 < x → 48 < get_or (decimal x) 0 0
unfolding decimal
no_leading_zero x = begins_by (suc x) x (omega arith)
