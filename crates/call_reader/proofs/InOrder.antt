-- What a reader hands out, call by call: in order from its number the arrows of a chart that passes checks 1 to 9, then
-- finished; over any other bytes finished at once.
use mathlib.Core.Path.{◌≡◌, refl, sym, ap, ◌∙◌}
use mathlib.Core.Logic.{inl, inr}
use mathlib.Core.List.{List, [], ◌∷◌, map}
use Prim.Native.Nat.{ℕ, zero, suc, ◌+◌, ◌≤◌, ◌<◌}
use native.Mathlib.Omega.{arith}
use lib.Dec.{eqb}
use borrow.Author.Tests.{eq-eqb, ne_eqb}
use Rattle.std.specs.Prelude.{Option, Some, None}
use Rattle.std.specs.List.{slice_get}
use Rattle.std.proofs.lemmas.Option.{slice_get_past, slice_get_read, slice_get_cases}
use Rattle.base.proofs.Truth.{cond_elim}
use Rattle.base.specs.Tabulate.{tabulate}
use Rattle.base.proofs.Tabulate.{length_tabulate, get_d_tabulate, map_tabulate}
use Rattle.chart.specs.Bytes.{arrow_count, arrow_words, arrow_of, chart_of}
use Rattle.chart.specs.Refusals.{chart_refusal}
use Rattle.chart.specs.declared.ArrowWords.{ArrowWords}
use Rattle.call_reader.specs.Reading.{arrows_in, handed, number_after, answers_of, InOrder}

module _ (s : List ℕ) where
  passed_arrows : (chart_refusal s).number ≡ 0 → arrows_in s ≡ tabulate (arrow_count s) (arrow_words s)
  unfolding arrows_in
  passed_arrows e = rw (eq-eqb (chart_refusal s).number 0 e)

  refused_arrows : ((chart_refusal s).number ≡ 0 → ⊥) → arrows_in s ≡ []
  unfolding arrows_in
  refused_arrows h = rw (ne_eqb (chart_refusal s).number 0 h)

  -- ── One call ──

  -- A reader of a chart that passes checks 1 to 9 hands out the arrow with its number, if there is one.
  -- Proof: the list of the arrows then has them all, in their order, and its entry i is arrow i.
  pub hands_out : (chart_refusal s).number ≡ 0 → (i : ℕ) → i < arrow_count s → handed s i ≡ Some (arrow_words s i)
  unfolding handed
  hands_out e i l =
      rw (passed_arrows e)
      (slice_get_read _ (arrow_count s) i (arrow_words s i) (sym (length_tabulate _ _)) l (sym (get_d_tabulate _ _ _ i l)))

  -- From the number of arrows on it says finished, whatever the bytes.
  -- Proof: the list of the arrows has no entry there, be it that of all of them or the empty one.
  pub finished_past : (i : ℕ) → arrow_count s ≤ i → handed s i ≡ None
  unfolding handed arrows_in
  finished_past i l =
      cond_elim (λ (a : List ArrowWords). slice_get a i ≡ None) (eqb (chart_refusal s).number 0)
      (λ e. slice_get_past (tabulate (arrow_count s) (arrow_words s)) i (simp length_tabulate l)) (λ e. refl)

  -- Over bytes that don't pass checks 1 to 9 it says finished at once, at every number.
  -- Proof: the list of the arrows is empty.
  pub finished_at_once : ((chart_refusal s).number ≡ 0 → ⊥) → (i : ℕ) → handed s i ≡ None
  unfolding handed
  finished_at_once h i = rw (refused_arrows h)

  -- ── One call after another ──

  -- once finished, finished at every later number
  later_finished : (i j : ℕ) → handed s i ≡ None → handed s (i + j) ≡ None
  unfolding handed
  later_finished i j e =
      elim (slice_get_cases (arrows_in s) i).1 [
        | inl (x, k, f, g) ↦ cc
        | inr (k, f) ↦ slice_get_past (arrows_in s) (i + j) (omega (arith, k))
      ]

  -- the calls after the first: it moved on by one, or it stayed, and all of them say finished
  next_handed : (i j : ℕ) (h : Option ArrowWords) → handed s i ≡ h → handed s (number_after h i + j) ≡ handed s (i + suc j)
  next_handed i j (Some a) e = ap (handed s) (omega arith)
  next_handed i j None e = later_finished i j e ∙ sym (later_finished i (suc j) e)

  -- By induction on k. The first call answers what stands at i. If that is an arrow, the others start from
  -- i + 1. If it is finished, they start from i again, and finished is all that stands at i and at later numbers.
  answers_from : (i k : ℕ) → answers_of k s i ≡ tabulate k (λ j. handed s (i + j))
  unfolding answers_of tabulate
  answers_from i zero = refl
  answers_from i (suc k) =
      ap (λ l. handed s i ∷ l) (answers_from (number_after (handed s i) i) k) ∙
      (λ t. handed s (start t) ∷ tabulate k (λ j. next_handed i j (handed s i) refl t))
    where
      start : i ≡ i + 0
      start = omega arith

  -- ── The chart that the bytes stand for ──

  -- The arrows handed out are those of the chart's meaning, in its order.
  -- Proof: both lists are made of the arrows' words, entry by entry.
  pub arrows_drawn : (chart_refusal s).number ≡ 0 → map arrow_of (arrows_in s) ≡ (chart_of s).arrows
  unfolding chart_of
  arrows_drawn e = ap (map arrow_of) (passed_arrows e) ∙ map_tabulate arrow_of (arrow_count s) (arrow_words s)

-- Of k calls from number i, call j counted from 0 answers what stands at i + j, for all bytes: the arrows in order from
-- that number, and then finished.
pub in_order : InOrder
in_order = answers_from
