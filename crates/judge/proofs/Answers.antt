-- The two answers: a refusal before anything is written, and one after row 19 was tested and scratch cleared.
use mathlib.Core.Path.{◌≡◌, refl, sym, ap, subst, ◌∙◌}
use mathlib.Core.Logic.{◌⊎◌, inl, inr}
use mathlib.Core.Bool.{Bool, true, false, cond, ◌||◌}
use mathlib.Core.List.{List, [], ◌∷◌, ◌++◌}
use Prim.Native.Nat.{ℕ, ◌*◌, ◌<◌}
use native.Mathlib.Omega.{arith}
use lib.ListN.{drop, replicate}
use lib.Dec.{eqb}
use borrow.Author.Tests.{ne_eqb, eqb-true, eqb-false}
use Rattle.tctl.specs.Holds.{Holds}
use Rattle.tctl.specs.Accepted.{Accepted}
use Rattle.model.specs.Decide.{holds}
use Rattle.model.proofs.Decide.{holds_iff}
use Rattle.outcome.specs.declared.Outcome.{Outcome}
use Rattle.outcome.specs.Refusal.{first}
use Rattle.outcome.proofs.First.{part_zero}
use Rattle.chart.specs.Bytes.{state_count, chart_of}
use Rattle.chart.proofs.WellFormed.{well_formed}
use Rattle.chart.proofs.Chart.{states_of}
use Rattle.rule.specs.Bytes.{node_count}
use Rattle.rule.specs.Refusals.{minutely}
use Rattle.rule.specs.Formula.{formula_at}
use Rattle.loops.specs.Refusal.{loop_row, accepted_table}
use Rattle.loops.proofs.Chain as loops
use Rattle.loops.proofs.Accepted.{accepted_only}
use Rattle.room.specs.Room.{size_for}
use Rattle.judge.specs.Judge.{size_of, marks_of, marks_after, scratch_after, Tells, Meaning, Promised}
use Rattle.judge.specs.Judged.{input_table, Judged}
use Rattle.judge.proofs.Chain.{input_refuses, input_other, loop_next, input_passes, loop_number}
use Rattle.judge.proofs.Marks.{marks_written, bit_tells}

module _ (counting : Bool) (chart rule marks scratch : List ℕ) {r : Outcome}
    (e : r ≡ first (input_table counting chart rule marks scratch)) where
  -- a refusal by rows 1 to 18: nothing is written
  pub refused_answered : ¬ (r.number ≡ 0) → Promised counting chart rule marks scratch r marks scratch
  unfolding marks_after scratch_after
  refused_answered h =
      let other = input_other counting chart rule marks scratch e in
      record {
        answer = input_refuses counting chart rule marks scratch e h;
        written = simp (ne_eqb _ _ h);
        cleared = simp (ne_eqb _ _ h, ne_eqb _ _ other);
        meaning = λ w. absurd (h w);
      }

  module _ (z : r.number ≡ 0) {o : Outcome} {new : List ℕ} (x : Judged chart (state_count chart) rule o marks new) where
    abbrev n : ℕ
    n = state_count chart

    -- scratch with its first numbers cleared
    abbrev zeroed : List ℕ
    zeroed = replicate (size_of counting chart rule) 0 ++ drop (size_of counting chart rule) scratch

    -- the chart has a state, and if row 19 is not met either it is accepted
    some_states : 0 < n
    some_states = (well_formed chart (input_passes counting chart rule marks scratch e z).of_chart).shape.some_states

    accepted : o.number ≡ 0 → Accepted (chart_of chart)
    accepted w =
        let a = (input_passes counting chart rule marks scratch e z).of_chart in
        let f = loops.loop_next chart refl a x.answer in
        accepted_only chart (part_zero (accepted_table chart) f w)

    marks_are : new ≡ marks_after chart rule o.number marks
    unfolding marks_after
    marks_are = turn (eqb o.number 0) refl
      where
        turn :
            (b : Bool) → eqb o.number 0 ≡ b →
            new ≡ cond b (marks_of chart rule ++ drop (node_count rule * n) marks) marks
        turn true f =
            marks_written chart rule some_states marks new (input_passes counting chart rule marks scratch e z).table x.size
            (x.rows (eqb-true _ _ f)) x.rest
        turn false f = x.refused (eqb-false _ _ f)

    -- row 19 answers 0 or 19
    scratch_are : {zeros : List ℕ} → zeros ≡ zeroed → zeros ≡ scratch_after counting chart rule o.number scratch
    unfolding scratch_after
    scratch_are {zeros} f = turn (loop_number chart)
      where
        is : o.number ≡ (first (loop_row chart ∷ [])).number
        is = ap (λ (a : Outcome). a.number) x.answer

        turn :
            ((first (loop_row chart ∷ [])).number ≡ 0) ⊎ ((first (loop_row chart ∷ [])).number ≡ 19) →
            zeros ≡ cond (eqb o.number 0 || eqb o.number 19) zeroed scratch
        turn (inl w) = rw (is, w) f
        turn (inr w) = rw (is, w) f

    -- a byte of the marks is its row's, and the decision is right
    tells : o.number ≡ 0 → Meaning chart rule new
    tells w t s l h =
        let φ = formula_at rule t in
        let decided = holds_iff (chart_of chart) (accepted w) φ s (omega (arith, states_of chart)) in
        subst (λ b. Tells b (Holds (chart_of chart) φ s)) (sym (x.rows w t l s h))
        (bit_tells (holds (chart_of chart) φ s) _ decided)

    all_answered : {zeros : List ℕ} → zeros ≡ zeroed → Promised counting chart rule marks scratch o new zeros
    all_answered f =
        record {
          answer = loop_next counting chart rule marks scratch e z x.answer;
          written = marks_are;
          cleared = scratch_are f;
          meaning = tells;
        }

  -- the same for counts that were read
  pub judged_answered :
      r.number ≡ 0 → {n size : ℕ} → n ≡ state_count chart → size ≡ size_for (minutely counting rule) n →
      {o : Outcome} {new zeros : List ℕ} → Judged chart n rule o marks new →
      zeros ≡ replicate size 0 ++ drop size scratch → Promised counting chart rule marks scratch o new zeros
  judged_answered z {n} {size} en es {o} {new} {zeros} x f =
      let all : size ≡ size_of counting chart rule = es ∙ ap (size_for (minutely counting rule)) en in
      all_answered z (subst (λ k. Judged chart k rule o marks new) en x)
      (subst (λ k. zeros ≡ replicate k 0 ++ drop k scratch) all f)
