-- The digits of a number, from those of its tenth.
use mathlib.Core.Path.{◌≡◌, refl, ap}
use mathlib.Core.Bool.{Bool, true, false, cond}
use mathlib.Core.List.{List, [], ◌∷◌, ◌++◌}
use Prim.Native.Nat.{ℕ, zero, suc, ◌+◌, ◌^◌, ◌/◌, ◌%◌, ◌≤◌, ◌<◌}
use native.Mathlib.Omega.{arith}
use native.Mathlib.Nat.{pow-suc}
use lib.ListN.{length, length-append}
use lib.Dec.{ltb}
use borrow.Author.Tests.{ltb-true, ltb-false, lt-ltb, le-ltb}
use Rattle.decimal.specs.Decimal.{digits_by, decimal}

-- more steps than there are digits change nothing: by induction on the steps, for x / 10 is below x from 10 on
enough : (a b x : ℕ) → x < a → x < b → digits_by a x ≡ digits_by b x
unfolding digits_by
enough zero b x h i = absurd (omega arith)
enough (suc a) zero x h i = absurd (omega arith)
enough (suc a) (suc b) x h i =
    ap (λ (s : List ℕ). s ++ (48 + x % 10) ∷ []) (turn (λ g j. enough a b (x / 10) g j) (ltb x 10) refl)
  where
    turn :
        (x / 10 < a → x / 10 < b → digits_by a (x / 10) ≡ digits_by b (x / 10)) →
        (c : Bool) → ltb x 10 ≡ c →
        cond {A = List ℕ} c [] (digits_by a (x / 10)) ≡ cond {A = List ℕ} c [] (digits_by b (x / 10))
    turn ih true e = refl
    turn ih false e = let l = ltb-false x 10 e in ih (omega arith) (omega arith)

-- d is the last digit: it is the only one, or it follows those of the tenth
pub decimal_last : {x d : ℕ} → d ≡ 48 + x % 10 → x < 10 → decimal x ≡ d ∷ []
unfolding decimal digits_by
decimal_last {x} e h = rw (e, lt-ltb x 10 h)

pub decimal_more : {x d : ℕ} → d ≡ 48 + x % 10 → 10 ≤ x → decimal x ≡ decimal (x / 10) ++ d ∷ []
unfolding decimal digits_by
decimal_more {x} e h =
    rw (e, le-ltb x 10 h)
    (ap (λ (s : List ℕ). s ++ (48 + x % 10) ∷ []) (enough x (suc (x / 10)) (x / 10) (omega arith) (omega arith)))

-- a number below 10 to the power d + 1 has at most d + 1 digits
pub decimal_size : (d x : ℕ) → x < 10 ^ suc d → length (decimal x) ≤ suc d
decimal_size zero x h = rw (decimal_last {x = x} refl (omega arith)) (omega arith)
decimal_size (suc d) x h = turn (decimal_size d (x / 10)) (ltb x 10) refl
  where
    turn :
        (x / 10 < 10 ^ suc d → length (decimal (x / 10)) ≤ suc d) → (c : Bool) → ltb x 10 ≡ c →
        length (decimal x) ≤ suc (suc d)
    turn ih true e = rw (decimal_last {x = x} refl (ltb-true x 10 e)) (omega arith)
    turn ih false e =
        let few = ih (omega (arith, h, pow-suc 10 (suc d))) in
        rw (decimal_more {x = x} refl (ltb-false x 10 e))
        (omega (arith, few, length-append (decimal (x / 10)) ((48 + x % 10) ∷ [])))
