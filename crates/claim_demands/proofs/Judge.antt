-- Check and count: their part of the first demand, and the second, from their promise alone.
use mathlib.Core.Path.{◌≡◌, refl, sym, ap, subst, ◌∙◌}
use mathlib.Core.Logic.Iff
use mathlib.Core.Logic.{◌↔◌, ◌⊎◌, inl, inr, by_cases}
use mathlib.Core.Bool.{Bool}
use mathlib.Core.List.{List, [], ◌∷◌, ◌++◌}
use Prim.Native.Nat.{ℕ, ◌*◌, ◌<◌}
use native.Mathlib.Decide.{ℕ_discrete}
use native.Mathlib.Omega.{arith}
use lib.ListN.{length, get_or, drop, replicate, length-replicate, get_or-replicate, get_or-append}
use Rattle.outcome.specs.declared.Outcome.{Outcome}
use Rattle.outcome.specs.Refusal.{success}
use Rattle.outcome.specs.Met.{Unmet}
use Rattle.outcome.proofs.First.{success_iff}
use Rattle.chart.specs.Bytes.{state_count}
use Rattle.rule.specs.Bytes.{node_count}
use Rattle.rule.specs.Refusals.{rule_table, rule_refusal}
use Rattle.loops.specs.Refusal.{loop_row}
use Rattle.judge.specs.Judge.{size_of, judge_table, judge_refusal, marks_of, Promised}
use Rattle.judge.specs.Judged.{input_table}
use Rattle.judge.proofs.Chain.{judge_numbered, own_iff, input_iff, judge_iff, room_iff, chart_iff}
use Rattle.judge.proofs.Marks.{front_size, past_front, marks_length}
use Rattle.judge.proofs.Promise.{cleared_admitted, accepted_marks, refused_marks, cleared_scratch, refused_scratch}
use Rattle.claim_demands.specs.Acceptable.{Acceptable}
use Rattle.claim_demands.specs.FirstDemand.{Unbroken}
use Rattle.claim_demands.specs.SecondDemand.{SecondDemand}
use Rattle.claim_demands.proofs.Answers.{answers}

-- the meaning is a part of the promise
pub judge_means : SecondDemand
judge_means counting chart rule marks scratch r newMarks new_scratch c = c.meaning

-- those of the rule that it be
pub rule_iff : (rule : List ℕ) → (rule_refusal rule ≡ success) ↔ Unmet (rule_table rule)
unfolding rule_table
rule_iff rule = success_iff (rule_table rule) tt

module _ (counting : Bool) (chart rule marks scratch : List ℕ) where
  -- Part by part: no row is met just where the chart is accepted, the rule is, no bound is too long, and there is room.
  pub judge_accepts :
      (judge_refusal counting chart rule marks scratch ≡ success) ↔ Acceptable counting chart rule marks scratch
  judge_accepts =
      Iff.trans
      (success_iff (judge_table counting chart rule marks scratch) (judge_numbered chart rule marks scratch counting))
      (Iff.trans (judge_iff counting chart rule marks scratch) (there, back))
    where
      Passed : Type 0
      Passed = Unmet (input_table counting chart rule marks scratch) × Unmet (loop_row chart ∷ [])

      there : Passed → Acceptable counting chart rule marks scratch
      there u =
          let parts = (input_iff counting chart rule marks scratch).0 u.0 in
          let room = (room_iff counting chart rule marks scratch).0 parts.1 in
          record {
            chart_accepted = (chart_iff chart).0 (parts.0.0.0, u.1);
            rule_accepted = (rule_iff rule).1 parts.0.0.1;
            bounds = (own_iff counting rule).0 parts.0.1;
            table = room.0;
            room = room.1;
          }

      back : Acceptable counting chart rule marks scratch → Passed
      back a =
          let charts = (chart_iff chart).1 a.chart_accepted in
          let rules = (rule_iff rule).0 a.rule_accepted in
          let own = (own_iff counting rule).1 a.bounds in
          let room = (room_iff counting chart rule marks scratch).1 (a.table, a.room) in
          ((input_iff counting chart rule marks scratch).1 (((charts.0, rules), own), room), charts.1)

-- zeros in front of what is kept
pub zero_front : (size : ℕ) (old : List ℕ) (i : ℕ) → i < size → get_or (replicate size 0 ++ drop size old) i 0 ≡ 0
zero_front size old i l =
    get_or-append (replicate size 0) (drop size old) 0 i (omega (arith, length-replicate {A = ℕ} size 0)) ∙
    get_or-replicate size i 0 0 l

-- The answer is the table's first row that is met, and what is left is as the promise says, case by case.
pub judge_unbroken :
    (counting : Bool) (chart rule marks scratch : List ℕ) (r : Outcome) (newMarks new_scratch : List ℕ) →
    Promised counting chart rule marks scratch r newMarks new_scratch →
    Unbroken counting chart rule marks scratch r newMarks new_scratch
judge_unbroken counting chart rule marks scratch r newMarks new_scratch c =
    record {
      answer =
          answers (judge_table counting chart rule marks scratch) c.answer
          (judge_accepts counting chart rule marks scratch);
      sizes = (marks_size, scratch_size_lem);
      later_kept = λ j l.
          by_cases (ℕ_discrete r.number 0)
          (λ z. ap (λ m. get_or m j 0) (accepted_marks c z) ∙
          past_front (marks_of chart rule) marks kn (marks_length chart rule) j l)
          (λ h. ap (λ m. get_or m j 0) (refused_marks c h));
      marks_kept = refused_marks c;
      cleared = λ w i l. ap (λ m. get_or m i 0) (cleared_scratch c w) ∙ zero_front size scratch i l;
      beyond = λ i l. scratch_by (λ s. get_or s i 0 ≡ get_or scratch i 0) refl
          (λ w. past_front zeros scratch size (length-replicate {A = ℕ} size 0) i l);
      scratch_kept = refused_scratch c;
    }
  where
    kn : ℕ
    kn = node_count rule * state_count chart

    size : ℕ
    size = size_of counting chart rule

    zeros : List ℕ
    zeros = replicate size 0

    -- scratch is as lent, or cleared
    scratch_by :
        (P : List ℕ → Type 0) → P scratch → ((r.number ≡ 0) ⊎ (r.number ≡ 19) → P (zeros ++ drop size scratch)) →
        P new_scratch
    scratch_by P kept cleared =
        by_cases (ℕ_discrete r.number 0)
        (λ z. subst P (sym (cleared_scratch c (inl z))) (cleared (inl z)))
        (λ h. by_cases (ℕ_discrete r.number 19)
        (λ z. subst P (sym (cleared_scratch c (inr z))) (cleared (inr z)))
        (λ k. subst P (sym (refused_scratch c h k)) kept))

    scratch_size_lem : length new_scratch ≡ length scratch
    scratch_size_lem =
        scratch_by (λ s. length s ≡ length scratch) refl
        (λ w. front_size zeros scratch size (length-replicate {A = ℕ} size 0) (cleared_admitted c w).room)

    marks_size : length newMarks ≡ length marks
    marks_size =
        by_cases (ℕ_discrete r.number 0)
        (λ z. ap (λ (m : List ℕ). length m) (accepted_marks c z) ∙
        front_size (marks_of chart rule) marks kn (marks_length chart rule) (cleared_admitted c (inl z)).table)
        (λ h. ap (λ (m : List ℕ). length m) (refused_marks c h))
