-- What is known once check has accepted: the chart, the rule's node, its marks, and the meaning of rows 60 and 62.
use mathlib.Core.Path.{◌≡◌, refl, ap, ◌∙◌}
use mathlib.Core.Logic.{◌↔◌, ◌⊎◌, inl, inr, by_cases}
use mathlib.Core.Bool.{Bool, true, false, ◌||◌, false≢true}
use mathlib.Core.Bool.{not as neg}
use mathlib.Core.List.{List}
use Prim.Native.Nat.{ℕ, ◌≤◌, ◌<◌}
use native.Mathlib.Omega.{arith}
use native.Mathlib.Decide.{dec_le}
use lib.ListN.{length}
use lib.Dec.{eqb, leb}
use borrow.Author.Tests.{eq-eqb, ne_eqb, le-leb, leb-true, leb-false}
use Rattle.base.proofs.Truth.{or_iff, not_iff}
use Rattle.tctl.specs.Chart.{states}
use Rattle.tctl.specs.Accepted.{Accepted}
use Rattle.model.specs.Decide.{holds}
use Rattle.model.specs.Marks.{mark}
use Rattle.model.proofs.Decide.{holds_iff}
use Rattle.outcome.proofs.First.{zero_iff}
use Rattle.chart.specs.Bytes.{state_count, chart_of}
use Rattle.chart.proofs.Chart.{states_of}
use Rattle.rule.specs.Bytes.{node_count, node_words}
use Rattle.rule.specs.Refusals.{rule_refusal}
use Rattle.rule.specs.Formula.{formula_at}
use Rattle.shown.specs.Shown.{Showable}
use Rattle.shown.specs.Showable.{showable}
use Rattle.shown.proofs.Meaning.{showable_iff}
use Rattle.call_check.specs.Check.{check_table, check_refusal}
use Rattle.judge.specs.Judge.{Tells, Meaning}
use Rattle.judge.proofs.Chain.{judge_numbered, input_iff, judge_iff, chart_iff}
use Rattle.show_refusals.specs.Rows.{is_shown_by}
use Rattle.show_refusals.proofs.Words.{shown_by}
use Rattle.call_show.specs.Show.{no_mark, RowsMean}
use Rattle.call_show.proofs.Fitting.{unfit_iff}

-- none of check's rows is met, so none of the chart's is, nor row 19
pub check_chart :
    (chart rule marks scratch : List ℕ) → (check_refusal chart rule marks scratch).number ≡ 0 → Accepted (chart_of chart)
check_chart chart rule marks scratch z =
    let all = (zero_iff (check_table chart rule marks scratch) (judge_numbered chart rule marks scratch false)).0 z in
    let parts = (judge_iff false chart rule marks scratch).0 all in
    let input = (input_iff false chart rule marks scratch).0 parts.0 in
    ((chart_iff chart).0 (input.0.0.0, parts.1)).meaning

-- ── Marks ──

-- a byte that tells what is decided is the mark of the decision
tells_mark : {byte : ℕ} {claim : Type 0} (b : Bool) → Tells byte claim → (b ≡ true) ↔ claim → eqb byte 1 ≡ b
tells_mark {byte} true t h = eq-eqb byte 1 (t.yes.1 (h.0 refl))
tells_mark {byte} false t h = ne_eqb byte 1 (λ e. false≢true (h.1 (t.yes.0 e)))

module _ (chart rule marks : List ℕ) (acc : Accepted (chart_of chart)) (means : Meaning chart rule marks) where
  abbrev n : ℕ
  n = state_count chart

  pub mark_right :
      (t : ℕ) → t < node_count rule → (s : ℕ) → s < n → mark n marks t s ≡ holds (chart_of chart) (formula_at rule t) s
  mark_right t l s h =
      tells_mark (holds (chart_of chart) (formula_at rule t) s) (means t s l h)
      (holds_iff (chart_of chart) acc (formula_at rule t) s (omega (arith, states_of chart)))

  module _ (ok : (rule_refusal rule).number ≡ 0) (node state : ℕ) where
    abbrev by_words : Bool
    by_words = is_shown_by (node_words rule node) (mark n marks node state)

    abbrev by_formula : Bool
    by_formula = showable (chart_of chart) (formula_at rule node) state

    in_range : node < node_count rule → state < n → by_words ≡ by_formula
    in_range l h =
        ap (is_shown_by (node_words rule node)) (mark_right node l state h) ∙
        shown_by (chart_of chart) (record { accepted = ok; low = l; read = refl }) state

    -- row 60 as it is tested is row 60: in range the words say what the formula does
    pub no_mark_lem :
        (leb (node_count rule) node || (leb n state || neg by_words)) ≡ no_mark chart rule node state
    no_mark_lem = turn (leb (node_count rule) node) refl (leb n state) refl
      where
        turn :
            (a : Bool) → leb (node_count rule) node ≡ a → (b : Bool) → leb n state ≡ b →
            (a || (b || neg by_words)) ≡ (a || (b || neg by_formula))
        turn true e b f = refl
        turn false e true f = refl
        turn false e false f =
            ap neg (in_range (leb-false (node_count rule) node e) (leb-false n state f))

-- ── RowsMean ──

module _ (chart rule : List ℕ) (acc : Accepted (chart_of chart)) (node state : ℕ) (output : List ℕ) where
  below : state < state_count chart → state < states (chart_of chart)
  below l = omega (arith, states_of chart)

  pub rows_mean : RowsMean chart rule node state output
  rows_mean =
      record {
        mark = (turn (leb (node_count rule) node) refl (leb (state_count chart) state) refl, back);
        fits = λ l h. unfit_iff acc (formula_at rule node) (below h) (length output);
      }
    where
      f : Bool
      f = showable (chart_of chart) (formula_at rule node) state

      Why : Type 0
      Why =
          (node_count rule ≤ node) ⊎
          (state_count chart ≤ state) ⊎
          (¬ Showable (chart_of chart) (formula_at rule node) state)

      turn :
          (a : Bool) → leb (node_count rule) node ≡ a → (b : Bool) → leb (state_count chart) state ≡ b →
          (a || (b || neg f)) ≡ true → Why
      turn true e b g h = inl (leb-true (node_count rule) node e)
      turn false e true g h = inr (inl (leb-true (state_count chart) state g))
      turn false e false g h =
          let low = below (leb-false (state_count chart) state g) in
          inr (inr (λ w. (not_iff f).0 h ((showable_iff acc (formula_at rule node) low).1 w)))

      past : (leb (state_count chart) state || neg f) ≡ true → no_mark chart rule node state ≡ true
      past h = (or_iff (leb (node_count rule) node) (leb (state_count chart) state || neg f)).1 (inr h)

      back : Why → no_mark chart rule node state ≡ true
      back (inl l) = ap (λ b. b || (leb (state_count chart) state || neg f)) (le-leb (node_count rule) node l)
      back (inr (inl l)) = past (ap (λ b. b || neg f) (le-leb (state_count chart) state l))
      back (inr (inr h)) =
          past
          (by_cases (dec_le (state_count chart) state)
          (λ l. ap (λ b. b || neg f) (le-leb (state_count chart) state l))
          (λ l.
          let low = below (omega arith) in
          (or_iff (leb (state_count chart) state) (neg f)).1
          (inr ((not_iff f).1 (λ e. h ((showable_iff acc (formula_at rule node) low).0 e))))))
