-- What the answer of the check tells of the text that is printed.
use mathlib.Core.Path.{◌≡◌, ap, ◌∙◌}
use mathlib.Core.Logic.{inl}
use mathlib.Core.List.{List}
use Prim.Native.Nat.{ℕ, ◌*◌, ◌≤◌, ◌<◌}
use native.Mathlib.Omega.{arith}
use native.Mathlib.Nat.{mul-le-mul_left, mul-le-mul_right}
use lib.ListN.{get_or, get_or-append}
use borrow.Author.Tests.{eq-eqb, ne_eqb}
use Rattle.outcome.specs.declared.Outcome.{Outcome}
use Rattle.chart.specs.Bytes.{state_count}
use Rattle.chart.proofs.WellFormed.{WellFormed, well_formed}
use Rattle.rule.specs.Bytes.{node_count}
use Rattle.rule.specs.Shape as rule-shape
use Rattle.rule.proofs.Accepted.{accepted}
use Rattle.call_check.specs.Check.{Checked}
use Rattle.judge.specs.Judge.{marks_of}
use Rattle.judge.proofs.Marks.{marks_length}
use Rattle.judge.proofs.Promise.{cleared_admitted, accepted_marks}
use Rattle.listing.specs.Text.{listing, refused_line}
use Rattle.listing.proofs.Same.{listing_same}
use Rattle.desk_call.specs.Printed.{lent_marks, lent_scratch, text_of, printed}

module _
    (chart rule : List ℕ) {r : Outcome} {newMarks new_scratch : List ℕ}
    (told : Checked chart rule lent_marks lent_scratch r newMarks new_scratch)
  where
    -- a refusal: its line is printed
    pub refusal_printed : (r.number ≡ 0 → ⊥) → refused_line r ≡ printed chart rule
    unfolding printed
    refusal_printed h =
        let e : refused_line r ≡ text_of chart rule r = rw (ne_eqb r.number 0 h) in
        e ∙ ap (text_of chart rule) told.answer

    module _ (z : r.number ≡ 0) where
      -- the chart and the rule have the shape that was asked for
      pub chart_formed : WellFormed chart
      chart_formed = well_formed chart (cleared_admitted told (inl z)).of_chart

      pub rule_shaped : rule-shape.Shape rule (node_count rule)
      rule_shaped = (accepted rule (cleared_admitted told (inl z)).of_rule).shape

      -- 64 rows of 256 marks are enough
      pub few_marks : node_count rule * state_count chart ≤ 16384
      few_marks =
          omega (
            arith,
            mul-le-mul_right (state_count chart) rule_shaped.few_nodes,
            mul-le-mul_left 64 chart_formed.shape.few_states,
          )

      marks_first :
          (i : ℕ) → i < node_count rule * state_count chart → get_or newMarks i 0 ≡ get_or (marks_of chart rule) i 0
      marks_first i l =
          ap (λ (m : List ℕ). get_or m i 0) (accepted_marks told z) ∙
          get_or-append (marks_of chart rule) _ 0 i (omega (arith, l, marks_length chart rule))

      -- acceptance: the first k × n bytes are the marks, so their listing is printed
      pub listing_printed :
          {n k : ℕ} → n ≡ state_count chart → k ≡ node_count rule → listing n k newMarks ≡ printed chart rule
      unfolding printed
      listing_printed e f =
          let t : listing (state_count chart) (node_count rule) (marks_of chart rule) ≡ text_of chart rule r =
          rw (eq-eqb r.number 0 z) in
          rw (e, f)
          (listing_same (state_count chart) (node_count rule) newMarks (marks_of chart rule) marks_first ∙
          t ∙
          ap (text_of chart rule) told.answer)
