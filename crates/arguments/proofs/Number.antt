-- A number in decimal, digit by digit.
use mathlib.Core.Path.{◌≡◌, refl, sym, ap, ◌∙◌}
use mathlib.Core.Bool.{Bool, true, false}
use mathlib.Core.List.{List, [], ◌∷◌}
use Prim.Native.Nat.{ℕ, suc, ◌+◌, ◌-◌, ◌*◌, ◌≤◌, ◌<◌, min}
use native.Mathlib.Nat.{min-eq_left, min-eq_right}
use native.Mathlib.Omega.{arith}
use lib.ListN.{length, get_or, drop}
use lib.Seq.{drop-cons, drop-length}
use lib.Dec.{ltb}
use borrow.Author.Tests.{ltb-true, ltb-false}
use Rattle.base.specs.Every.{every}
use Rattle.decimal.specs.Value.{is_digit, read_as}
use Rattle.std.specs.Prelude.{Some, None}
use Rattle.arguments.specs.Argument.{out_of_range, number_from}

-- more digits make no smaller number
grows : (high : ℕ) (s : List ℕ) → high ≤ read_as high s
grows high [] = omega arith
grows high (d ∷ s) = omega (arith, grows (high * 10 + (d - 48)) s)

-- so a number out of range stays there, and the digits that are left may as well follow what stands for it
capped : (high : ℕ) (s : List ℕ) → min (read_as high s) out_of_range ≡ min (read_as (min high out_of_range) s) out_of_range
capped high s = turn (ltb high out_of_range) refl
  where
    stays : (x : ℕ) → out_of_range ≤ x → min (read_as x s) out_of_range ≡ out_of_range
    stays x h = min-eq_right (omega (arith, h, grows x s))

    turn :
        (b : Bool) → ltb high out_of_range ≡ b →
        min (read_as high s) out_of_range ≡ min (read_as (min high out_of_range) s) out_of_range
    turn true e =
        let l = ltb-true high out_of_range e in
        let k : min high out_of_range ≡ high = omega arith in
        rw k
    turn false e =
        let l = ltb-false high out_of_range e in
        let k : min high out_of_range ≡ out_of_range = omega arith in
        rw k (stays high l ∙ sym (stays out_of_range (omega arith)))

module _ (text : List ℕ) where
  module _ (value i : ℕ) where
    begins : i < length text → drop i text ≡ get_or text i 0 ∷ drop (i + 1) text
    begins h = let e : i + 1 ≡ suc i = omega arith in rw e (drop-cons text i 0 h)

    -- a digit, and what follows it
    pub number_more :
        {next : ℕ} → i < length text → is_digit (get_or text i 0) ≡ true →
        next ≡ min (value * 10 + (get_or text i 0 - 48)) out_of_range →
        number_from value (drop i text) ≡ number_from next (drop (i + 1) text)
    unfolding number_from every
    number_more h d e =
        rw (e, begins h, d, capped (value * 10 + (get_or text i 0 - 48)) (drop (i + 1) text))

    pub number_other : i < length text → is_digit (get_or text i 0) ≡ false → number_from value (drop i text) ≡ None
    unfolding number_from every
    number_other h d = rw (begins h, d)

    pub number_done : value ≤ out_of_range → i ≡ length text → number_from value (drop i text) ≡ Some value
    unfolding number_from every
    number_done h e = rw (e, drop-length text) (ap Some (min-eq_left h))
