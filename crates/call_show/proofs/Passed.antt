-- Which of show's rows are met, part by part.
use mathlib.Core.Path.{◌≡◌, refl, sym, ap}
use mathlib.Core.Logic.{◌↔◌, ◌⊎◌, inl, inr, by_cases}
use mathlib.Core.Bool.{Bool, true, false, false≢true}
use mathlib.Core.List.{List, [], ◌∷◌}
use mathlib.Core.Option.{Option}
use Prim.Native.Nat.{ℕ, ◌+◌, ◌*◌, ◌≤◌, ◌<◌}
use native.Mathlib.Omega.{arith}
use native.Mathlib.Decide.{dec_le, ℕ_discrete}
use lib.ListN.{length}
use lib.Dec.{leb, ltb}
use borrow.Author.Tests.{leb-false, lt-ltb}
use Rattle.base.proofs.Truth.{or_false}
use Rattle.outcome.specs.declared.Outcome.{Outcome}
use Rattle.outcome.specs.Refusal.{Row, refuse, whole, first}
use Rattle.outcome.specs.Met.{Unmet, end}
use Rattle.outcome.proofs.First.{Numbered, part_refuses, part_passes, zero_iff}
use Rattle.outcome.proofs.Bounded.{number_le}
use Rattle.outcome.proofs.Unmet.{unmet_more, unmet_row, unmet_append_iff}
use Rattle.outcome.proofs.Whole.{whole_none}
use Rattle.chart.specs.Bytes.{state_count}
use Rattle.chart.specs.Refusals.{chart_table}
use Rattle.rule.specs.Bytes.{node_count}
use Rattle.rule.specs.Refusals.{rule_table, rule_refusal}
use Rattle.rule.proofs.Accepted.{accepted}
use Rattle.loops.specs.Refusal.{loop_row}
use Rattle.call_check.specs.Check.{check_table}
use Rattle.judge.specs.Judge.{judge_table}
use Rattle.judge.proofs.Chain.{judge_numbered, input_iff, judge_iff}
use Rattle.show_refusals.specs.Fits.{table_size, unfit}
use Rattle.call_show.specs.Show.{no_mark, steps_of, show_table, show_refusal}

module _ (chart rule marks scratch : List ℕ) (node state : ℕ) (output : List ℕ) where
  pub show_numbered : Numbered (show_table chart rule marks scratch node state output)
  unfolding show_table judge_table chart_table rule_table loop_row
  show_numbered = tt

  -- none of check's rows is met, nor 60, 61 and 62
  abbrev pub Passes : Type 0
  Passes =
      Unmet (check_table chart rule marks scratch) × (no_mark chart rule node state ≡ false) ×
      (ltb (length scratch) (table_size (state_count chart)) ≡ false) ×
      (unfit (length output) (steps_of chart rule node state) ≡ false)

  abbrev own : List Row
  own =
      refuse 60 (whole (no_mark chart rule node state)) ∷
      refuse 61 (whole (ltb (length scratch) (table_size (state_count chart)))) ∷
      refuse 62 (whole (unfit (length output) (steps_of chart rule node state))) ∷
      []

  pub show_iff : Unmet (show_table chart rule marks scratch node state output) ↔ Passes
  unfolding show_table
  show_iff = (there, back)
    where
      there : Unmet (show_table chart rule marks scratch node state output) → Passes
      there u =
          let parts = (unmet_append_iff (check_table chart rule marks scratch) own).0 u in
          let mark = unmet_row parts.1 in
          let table = unmet_row mark.1 in (
            parts.0,
            whole_none _ mark.0,
            whole_none _ table.0,
            whole_none _ (unmet_row table.1).0,
          )

      back : Passes → Unmet (show_table chart rule marks scratch node state output)
      back h =
          (unmet_append_iff (check_table chart rule marks scratch) own).1 (
            h.0,
            unmet_more (ap whole h.1) (unmet_more (ap whole h.2) (unmet_more (ap whole h.3) end)),
          )

  -- the node of a run that is shown lies in the rule
  pub shown_node_whole :
      (show_refusal chart rule marks scratch node state output).number ≡ 0 → 15 + 8 * node ≤ length rule
  unfolding rule_table
  shown_node_whole z =
      let h = show_iff.0 ((zero_iff (show_table chart rule marks scratch node state output) show_numbered).0 z) in
      let parts = (input_iff false chart rule marks scratch).0 ((judge_iff false chart rule marks scratch).0 h.0).0 in
      let ok : (rule_refusal rule).number ≡ 0 = (zero_iff (rule_table rule) tt).1 parts.0.0.1 in
      let low : node < node_count rule =
      leb-false (node_count rule) node (or_false (leb (node_count rule) node) _ h.1).0 in
      omega (arith, low, (accepted rule ok).shape.whole)

  -- Where scratch is short, the answer is one of check's, which are no higher than 19, or 60, or 61.
  pub table_lent :
      ((show_refusal chart rule marks scratch node state output).number ≡ 0) ⊎
      ((show_refusal chart rule marks scratch node state output).number ≡ 62) →
      table_size (state_count chart) ≤ length scratch
  unfolding show_table judge_table chart_table rule_table loop_row first
  table_lent w =
      by_cases (dec_le (table_size (state_count chart)) (length scratch)) (λ l. l)
      (λ l.
      absurd (by_cases (ℕ_discrete (first checks).number 0)
      (λ z. neither w
      (ap number (sym (part_passes checks own (judge_numbered chart rule marks scratch false) refl z refl)))
      (short (no_mark chart rule node state) _ (lt-ltb (length scratch) (table_size (state_count chart)) (omega arith))
      (whole (unfit (length output) (steps_of chart rule node state)))))
      (λ h. low w (ap number (sym (part_refuses checks own refl h))) h (number_le 19 checks refl))))
    where
      checks : List Row
      checks = check_table chart rule marks scratch

      number : Outcome → ℕ
      number o = o.number

      short :
          (b t : Bool) → t ≡ true → (u : Option ℕ) →
          let r = (first (refuse 60 (whole b) ∷ refuse 61 (whole t) ∷ refuse 62 u ∷ [])).number in (r ≡ 60) ⊎ (r ≡ 61)
      short true t e u = inl refl
      short false true e u = inr refl
      short false false e u = absurd (false≢true e)

      neither :
          {r o : ℕ} → (r ≡ 0) ⊎ (r ≡ 62) → r ≡ o → (o ≡ 60) ⊎ (o ≡ 61) → ⊥
      neither (inl a) e (inl b) = omega arith
      neither (inl a) e (inr b) = omega arith
      neither (inr a) e (inl b) = omega arith
      neither (inr a) e (inr b) = omega arith

      low : {r o : ℕ} → (r ≡ 0) ⊎ (r ≡ 62) → r ≡ o → ¬ (o ≡ 0) → o ≤ 19 → ⊥
      low (inl a) e h l = h (omega arith)
      low (inr a) e h l = omega arith
