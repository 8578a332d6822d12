-- A number's text stands for the number.
use mathlib.Core.Path.{◌≡◌, refl, ◌∙◌}
use mathlib.Core.Bool.{Bool, true, false, cond}
use mathlib.Core.List.{List, [], ◌∷◌, ◌++◌}
use Prim.Native.Nat.{ℕ, zero, suc, ◌+◌, ◌-◌, ◌*◌, ◌/◌, ◌%◌, ◌<◌}
use native.Mathlib.Omega.{arith}
use lib.Dec.{ltb}
use borrow.Author.Tests.{ltb-true, ltb-false}
use Rattle.decimal.specs.Decimal.{digits_by, decimal}
use Rattle.decimal.specs.Value.{read_as}

value_append : (high : ℕ) (s : List ℕ) (d : ℕ) → read_as high (s ++ d ∷ []) ≡ read_as high s * 10 + (d - 48)
value_append high [] d = refl
value_append high (x ∷ s) d = value_append (high * 10 + (x - 48)) s d

value_by : (most x : ℕ) → x < most → read_as 0 (digits_by most x) ≡ x
unfolding digits_by
value_by zero x h = absurd (omega arith)
value_by (suc most) x h =
    value_append 0 (cond (ltb x 10) [] (digits_by most (x / 10))) (48 + x % 10) ∙
    turn (value_by most (x / 10)) (ltb x 10) refl
  where
    turn :
        (x / 10 < most → read_as 0 (digits_by most (x / 10)) ≡ x / 10) → (c : Bool) → ltb x 10 ≡ c →
        read_as 0 (cond {A = List ℕ} c [] (digits_by most (x / 10))) * 10 + (48 + x % 10 - 48) ≡ x
    turn ih true e = let l = ltb-true x 10 e in omega arith
    turn ih false e = let l = ltb-false x 10 e in let v = ih (omega arith) in omega (arith, v)

pub decimal_value : (x : ℕ) → read_as 0 (decimal x) ≡ x
unfolding decimal
decimal_value x = value_by (suc x) x (omega arith)
