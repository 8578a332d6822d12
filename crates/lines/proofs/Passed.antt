-- One byte of a text is passed: what it changes of what stands behind i newlines; and how many stand before the first one.
use mathlib.Core.Path.{◌≡◌, refl, ap, ◌∙◌}
use mathlib.Core.Bool.{Bool, true, false, cond, not}
use mathlib.Core.List.{List, [], ◌∷◌}
use Prim.Native.Nat.{ℕ, zero, suc, ◌+◌, ◌-◌, ◌≤◌, ◌<◌}
use native.Mathlib.Numerals.{add-one, sub-one}
use native.Mathlib.Omega.{arith}
use lib.Dec.{eqb}
use lib.ListN.{length, get_or, take, drop, drop_of_length-le}
use lib.Seq.{drop-cons}
use borrow.Author.Tests.{eq-eqb, ne_eqb}
use Rattle.std.specs.List.{position, position_or_len}
use Rattle.std.specs.Option.{unwrap_or}
use Rattle.std.proofs.Common.{nat_lt, None, Some}
use Rattle.std.proofs.lemmas.Grind.{common_steps}
use Rattle.std.proofs.lemmas.List.Sums.{prefix_len-le-length}
use Rattle.lines.specs.Line.{behind, before}

pub behind_nothing : (i : ℕ) → behind i [] ≡ []
unfolding behind
behind_nothing zero = refl
behind_nothing (suc i) = refl

-- at the end nothing is left
pub behind_end : (s : List ℕ) (at i : ℕ) → length s ≤ at → behind i (drop at s) ≡ drop at s
behind_end s at i over = rw (drop_of_length-le s over, behind_nothing)

module _ (s : List ℕ) (at : ℕ) (inside : at < length s) where
  byte_first : drop at s ≡ get_or s at 0 ∷ drop (at + 1) s
  byte_first = rw (add-one, drop-cons s at 0)

  pub behind_newline :
      (i : ℕ) → 0 < i → get_or s at 0 ≡ 10 → behind i (drop at s) ≡ behind (i - 1) (drop (at + 1) s)
  unfolding behind
  behind_newline zero l e = absurd (omega arith)
  behind_newline (suc i) l e = rw (byte_first, eq-eqb (get_or s at 0) 10 e, sub-one)

  pub behind_other :
      (i : ℕ) → 0 < i → ¬ (get_or s at 0 ≡ 10) → behind i (drop at s) ≡ behind i (drop (at + 1) s)
  unfolding behind
  behind_other zero l d = absurd (omega arith)
  behind_other (suc i) l d = rw (byte_first, ne_eqb (get_or s at 0) 10 d)

-- what a step and the end of `line_start` use
pub ruleset passed = (behind_end, behind_newline, behind_other)

abbrev pub newline : ℕ → Bool
newline b = eqb b 10

-- As many bytes as come before the first newline are what stands before it. By induction: behind a byte that is no newline
-- its place is one more than in the rest.
size_before : (s : List ℕ) → take (position_or_len newline s) s ≡ before s
unfolding before
size_before [] = refl
size_before (b ∷ s) = turn (newline b) (size_before s)
  where
    n : ℕ
    n = position_or_len newline s

    turn : (c : Bool) → take n s ≡ before s → take (cond (not c) (1 + n) 0) (b ∷ s) ≡ cond c [] (b ∷ before s)
    turn true ih = refl
    turn false ih = let e : 1 + n ≡ suc n = omega arith in rw (e, ih)

-- The same of what `position` answers, and of the whole text if there is no newline. Then no byte is one, so that the
-- length is as many as come before the first.
pub before_is : (s : List ℕ) {n : ℕ} → n ≡ unwrap_or (position newline s) (length s) → take n s ≡ before s
before_is s e = ap (λ (k : ℕ). take k s) (e ∙ turn (nat_lt size (length s)) refl) ∙ size_before s
  where
    size : ℕ
    size = position_or_len newline s

    turn : (c : Bool) → nat_lt size (length s) ≡ c → unwrap_or (cond c (Some size) None) (length s) ≡ size
    turn true h = refl
    turn false h = grind (arith, common_steps, prefix_len-le-length (λ x. not (newline x)) s)
