-- What the promise says by cases: accepted or refused, and refused with 19 or otherwise.
use mathlib.Core.Path.{◌≡◌, refl, sym, ap, ◌∙◌}
use mathlib.Core.Logic.{◌⊎◌, inl, inr, by_cases}
use mathlib.Core.Bool.{Bool}
use mathlib.Core.List.{List, ◌++◌}
use Prim.Native.Nat.{ℕ, ◌*◌}
use native.Mathlib.Decide.{ℕ_discrete}
use lib.ListN.{drop, replicate}
use borrow.Author.Tests.{eq-eqb, ne_eqb}
use Rattle.outcome.specs.declared.Outcome.{Outcome}
use Rattle.outcome.specs.Refusal.{Row, first}
use Rattle.chart.specs.Bytes.{state_count}
use Rattle.rule.specs.Bytes.{node_count}
use Rattle.judge.specs.Judge.{size_of, marks_of, marks_after, scratch_after, Promised}
use Rattle.judge.specs.Judged.{input_table}
use Rattle.judge.proofs.Chain.{Admitted, input_refuses, input_other, input_passes}

module _ {counting : Bool} {chart rule marks scratch : List ℕ} {r : Outcome} {newMarks new_scratch : List ℕ}
    (c : Promised counting chart rule marks scratch r newMarks new_scratch) where
  abbrev size : ℕ
  size = size_of counting chart rule

  -- Scratch is cleared only where the rows before 19 are passed: these don't answer 19, and no 0 where one is met.
  pub cleared_admitted : (r.number ≡ 0) ⊎ (r.number ≡ 19) → Admitted counting chart rule marks scratch
  cleared_admitted w =
      by_cases (ℕ_discrete (first inputs).number 0)
      (λ z. input_passes counting chart rule marks scratch refl z)
      (λ h.
      let same = ap (λ (o : Outcome). o.number) (c.answer ∙ sym (input_refuses counting chart rule marks scratch refl h)) in
      absurd (neither w h same (input_other counting chart rule marks scratch refl)))
    where
      inputs : List Row
      inputs = input_table counting chart rule marks scratch

      neither :
          (r.number ≡ 0) ⊎ (r.number ≡ 19) → ¬ ((first inputs).number ≡ 0) → r.number ≡ (first inputs).number →
          ¬ ((first inputs).number ≡ 19) → ⊥
      neither (inl z) h e other = h (sym e ∙ z)
      neither (inr z) h e other = other (sym e ∙ z)

  pub accepted_marks : r.number ≡ 0 → newMarks ≡ marks_of chart rule ++ drop (node_count rule * state_count chart) marks
  unfolding marks_after
  accepted_marks z = c.written ∙ simp (eq-eqb _ _ z)

  pub refused_marks : ¬ (r.number ≡ 0) → newMarks ≡ marks
  unfolding marks_after
  refused_marks h = c.written ∙ simp (ne_eqb _ _ h)

  pub cleared_scratch : (r.number ≡ 0) ⊎ (r.number ≡ 19) → new_scratch ≡ replicate size 0 ++ drop size scratch
  unfolding scratch_after
  cleared_scratch (inl z) = c.cleared ∙ rw z
  cleared_scratch (inr z) = c.cleared ∙ rw z

  pub refused_scratch : ¬ (r.number ≡ 0) → ¬ (r.number ≡ 19) → new_scratch ≡ scratch
  unfolding scratch_after
  refused_scratch h k = c.cleared ∙ simp (ne_eqb _ _ h, ne_eqb _ _ k)
