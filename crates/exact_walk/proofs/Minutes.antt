-- The first of an arrow's minutes that leads to a number, by the words that are read.
use mathlib.Core.Path.{◌≡◌, refl, sym, ◌∙◌}
use mathlib.Core.Logic.Iff
use mathlib.Core.Logic.{◌↔◌}
use mathlib.Core.Bool.{Bool, true}
use mathlib.Core.List.{List}
use mathlib.Core.Option.{none, some}
use Prim.Native.Nat.{ℕ, suc, ◌+◌, ◌-◌, ◌≤◌, ◌<◌, min}
use native.Mathlib.Omega.{arith}
use lib.Dec.{leb}
use borrow.Author.Count.{below_more}
use borrow.Author.Tests.{le-leb, eqb-true}
use Rattle.base.proofs.Truth.{both_iff, cond_elim, no_test}
use Rattle.base.proofs.Compare.{eqb_iff, leb_iff}
use Rattle.outcome.proofs.Lowest.{lowest_some, lowest_none}
use Rattle.chart.specs.declared.ArrowWords.{ArrowWords}
use Rattle.chart.specs.Bytes.{arrow_of, is_no_end, most_of}
use Rattle.shown.specs.Exact.{within, suits, first_minutes}
use Rattle.exact_table.specs.Rows.{left_in}
use Rattle.exact_walk.specs.Walk.{steps_in}

-- "no end" is the word 65535, which is above the minutes that are left
within_word : (w d : ℕ) → d < 256 → within d (most_of w) ≡ leb d w
within_word w d l =
    cond_elim (λ m. within d m ≡ leb d w) (is_no_end w)
    (λ e. let f = eqb-true w 65535 e in sym (le-leb d w (omega arith))) (λ e. refl)

-- no duration from the first to before d leads to `left`, by the numbers x that durations lead to
abbrev pub Missed : (ℕ → ℕ) → ℕ → ℕ → ℕ → Type 0
Missed x left first d = (j : ℕ) → first ≤ j → j < d → ¬ (x j ≡ left)

pub missed_more :
    {x : ℕ → ℕ} {left first d : ℕ} → Missed x left first d → ¬ (x d ≡ left) → Missed x left first (d + 1)
missed_more {x} {left} {first} {d} h o j l i =
    below_more (λ j. first ≤ j → ¬ (x j ≡ left)) d (λ j i l. h j l i) (λ l. o) j i l

module _ (a : ArrowWords) (left : ℕ) {minutes : ℕ} (few : minutes < 256) (n : ℕ) (table : List ℕ) where
  abbrev f : ℕ → ℕ → Bool
  f = steps_in n table left

  abbrev suit : ℕ → Bool
  suit = suits f minutes (arrow_of a)

  -- the number that a duration leads to
  abbrev to : ℕ → ℕ
  to d = left_in n table (minutes - d) a.end

  -- one that suits is in the slot and leads there
  suit_iff : (d : ℕ) → d ≤ minutes → (suit d ≡ true) ↔ ((a.fewest ≤ d) × ((d ≤ a.most) × (to d ≡ left)))
  suit_iff d l =
      let word = within_word a.most d (omega arith) in
      both_iff (leb_iff a.fewest d)
      (both_iff (Iff.trans (λ e. sym word ∙ e, λ e. word ∙ e) (leb_iff d a.most)) (eqb_iff (to d) left))

  pub minutes_found :
      {d : ℕ} → d ≤ minutes → d ≤ a.most → a.fewest ≤ d →
      Missed (λ d. left_in n table (minutes - d) a.end) left a.fewest d →
      left_in n table (minutes - d) a.end ≡ left →
      first_minutes (steps_in n table left) minutes (arrow_of a) ≡ some d
  minutes_found {d} l h up missed e =
      lowest_some suit
      (record {
        inside = omega arith;
        offends = (suit_iff d l).1 (up, (h, e));
        under = λ j i. no_test (suit_iff j (omega arith)) (λ w. missed j w.0 i w.1.1);
      })

  pub minutes_none :
      {d last : ℕ} → last ≡ min minutes a.most → last < d →
      Missed (λ d. left_in n table (minutes - d) a.end) left a.fewest d →
      first_minutes (steps_in n table left) minutes (arrow_of a) ≡ none
  minutes_none is over missed =
      lowest_none suit (suc minutes)
      (λ j i.
      let low : j ≤ minutes = omega arith in
      no_test (suit_iff j low) (λ w. missed j w.0 (omega (arith, w.1.0)) w.1.1))
