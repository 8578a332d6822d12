-- A number with one digit more, or none.
use mathlib.Core.Path.{◌≡◌, refl, ap, subst, ◌∙◌}
use mathlib.Core.Bool.{Bool, true, false, cond}
use mathlib.Core.List.{List, [], ◌∷◌}
use Prim.Native.Nat.{ℕ, suc, ◌+◌, ◌-◌, ◌≤◌, ◌<◌}
use native.Mathlib.Omega.{arith}
use lib.ListN.{length, get_or, drop, length-drop}
use lib.Seq.{drop-cons, drop-length}
use borrow.Author.Tests.{ltb-true}
use Rattle.std.proofs.Common.{Some, None}
use Rattle.base.proofs.Truth.{and_iff, cond_elim}
use Rattle.rule_grammar.specs.Machine.{grown, grows}
use Rattle.rule_numbers.specs.Number.{digit_at, further, number_from}
use Rattle.rule_numbers.specs.declared.Number.{Number}

module _ (most n : ℕ) (t : List ℕ) (i : ℕ) where
  pub further_more :
      i < length t → grows most n (get_or t i 0) ≡ true →
      further most n (drop i t) i ≡ further most (grown n (get_or t i 0)) (drop (i + 1) t) (i + 1)
  unfolding further
  further_more l e =
      let one : i + 1 ≡ suc i = omega arith in
      rw (one, drop-cons t i 0 l, e)

  pub further_end :
      i < length t → grows most n (get_or t i 0) ≡ false → further most n (drop i t) i ≡ record { value = n; end = i }
  unfolding further
  further_end l e = rw (drop-cons t i 0 l, e)

  pub further_none : i ≡ length t → further most n (drop i t) i ≡ record { value = n; end = i }
  unfolding further
  further_none e = rw (ap (λ (k : ℕ). drop k t) e ∙ drop-length t)

-- what a step and the end of `further_digits` use
pub ruleset digit_by_digit = (further_more, further_end, further_none)

-- a number ends in the text: each digit is a byte of it
further_ends :
    (most n : ℕ) (s : List ℕ) (i size : ℕ) → i + length s ≤ size →
    (i ≤ (further most n s i).end) × ((further most n s i).end ≤ size)
unfolding further
further_ends most n [] i size h = (omega arith, omega arith)
further_ends most n (b ∷ s) i size h =
    cond_elim (λ (x : Number). (i ≤ x.end) × (x.end ≤ size)) (grows most n b)
    (λ _. let r = further_ends most (grown n b) s (suc i) size (omega arith) in (omega (arith, r.0), r.1))
    (λ _. (omega arith, omega arith))

-- so the number that starts at place i ends in it, if there is one
pub number_ends :
    (most : ℕ) (t : List ℕ) (i : ℕ) {n : Number} → number_from most t i ≡ Some n → n.end ≤ length t
unfolding number_from
number_ends most t i = turn (digit_at t i) refl
  where
    r : Number
    r = further most (get_or t i 0 - 48) (drop (i + 1) t) (i + 1)

    turn : (c : Bool) → digit_at t i ≡ c → {n : Number} → cond c (Some r) None ≡ Some n → n.end ≤ length t
    turn true d {n} e =
        let l = ltb-true i (length t) ((and_iff _ _).0 d).0 in
        let same : r ≡ n = cc in
        let fits : i + 1 + length (drop (i + 1) t) ≤ length t = omega (arith, length-drop (i + 1) t) in
        subst (λ (x : Number). x.end ≤ length t) same (further_ends most _ (drop (i + 1) t) (i + 1) _ fits).1
    turn false d e = absurd cc
