-- The promises can be met: by the answer of the table, the marks that the model decides, and scratch cleared.
use mathlib.Core.Path.{◌≡◌, refl, sym, ap, ◌∙◌}
use mathlib.Core.Logic.{by_cases}
use mathlib.Core.Bool.{false, false≢true}
use mathlib.Core.List.{List, [], ◌∷◌, ◌++◌}
use Prim.Native.Nat.{ℕ, ◌*◌, ◌≤◌, ◌<◌}
use native.Mathlib.Nat.{le_of_eq}
use native.Mathlib.Decide.{ℕ_discrete}
use native.Mathlib.Omega.{arith}
use lib.Arith.{digits_lt, digits_div, digits_mod}
use lib.ListN.{length, drop, replicate, length-replicate, get_or-append}
use Rattle.base.proofs.Tabulate.{get_d_tabulate}
use Rattle.model.specs.Decide.{holds}
use Rattle.model.specs.Marks.{bit}
use Rattle.outcome.specs.declared.Outcome.{Outcome}
use Rattle.outcome.specs.Refusal.{first, success}
use Rattle.chart.specs.Bytes.{state_count, chart_of}
use Rattle.rule.specs.Bytes.{node_count}
use Rattle.rule.specs.Formula.{formula_at}
use Rattle.loops.specs.Refusal.{loop_row}
use Rattle.nodes.specs.Right.{Right}
use Rattle.call_check.specs.Check.{check_refusal}
use Rattle.judge.specs.Judge.{size_of, marks_of, Promised}
use Rattle.judge.specs.Judged.{input_table, Judged}
use Rattle.judge.proofs.Chain.{input_passes}
use Rattle.judge.proofs.Marks.{front_size, past_front, marks_length}
use Rattle.judge.proofs.Answers.{refused_answered, judged_answered}
use Rattle.claim_demands.specs.Answerable.{Answerable, SomeMarks}
use Rattle.claim_demands.proofs.Judge.{judge_accepts}

module _ (chart rule : List ℕ) where
  abbrev n : ℕ
  n = state_count chart

  abbrev size : ℕ
  size = node_count rule * n

  -- byte t × n + s of the marks is that of node t and state s
  marks_right : (rest : List ℕ) (t : ℕ) → t < node_count rule → Right chart n rule t (marks_of chart rule ++ rest)
  unfolding marks_of
  marks_right rest t l s h =
      let in-marks = digits_lt {c = n} l h in
      get_or-append (marks_of chart rule) rest 0 _ (omega (arith, in-marks, marks_length chart rule)) ∙
      get_d_tabulate size _ 0 _ in-marks ∙
      (λ i. bit (holds (chart_of chart) (formula_at rule (digits_div t h i)) (digits_mod t h i)))

-- Rows 1 to 18 refuse, and nothing is written; or row 19 does, and scratch is cleared; or the marks are written too.
pub answerable : Answerable
answerable counting chart rule marks scratch =
    by_cases (ℕ_discrete inputs.number 0) passed
    (λ h. (inputs, marks, scratch, refused_answered counting chart rule marks scratch refl h))
  where
    inputs : Outcome
    inputs = first (input_table counting chart rule marks scratch)

    last : Outcome
    last = first (loop_row chart ∷ [])

    k×n : ℕ
    k×n = node_count rule * state_count chart

    judged : List ℕ → Type 0
    judged = Judged chart (state_count chart) rule last marks

    kept : ¬ (last.number ≡ 0) → judged marks
    kept h =
        record { answer = refl; refused = λ _. refl; size = refl; rows = λ w. absurd (h w); rest = λ j l. refl }

    written : k×n ≤ length marks → last.number ≡ 0 → judged (marks_of chart rule ++ drop k×n marks)
    written room w =
        record {
          answer = refl;
          refused = λ h. absurd (h w);
          size = front_size (marks_of chart rule) marks k×n (marks_length chart rule) room;
          rows = λ _ t l. marks_right chart rule (drop k×n marks) t l;
          rest = past_front (marks_of chart rule) marks k×n (marks_length chart rule);
        }

    Answer : Type 0
    Answer =
        (r : Outcome) × (newMarks : List ℕ) × (new_scratch : List ℕ) ×
        Promised counting chart rule marks scratch r newMarks new_scratch

    answer : inputs.number ≡ 0 → (new : List ℕ) → judged new → Answer
    answer z new j = (last, new, _, judged_answered counting chart rule marks scratch refl z refl refl j refl)

    passed : inputs.number ≡ 0 → Answer
    passed z =
        by_cases (ℕ_discrete last.number 0)
        (λ w. answer z _ (written (input_passes counting chart rule marks scratch refl z).table w))
        (λ h. answer z _ (kept h))

-- Just enough room is lent, so check accepts, and leaves such marks as its promise can be met by.
pub some_marks : SomeMarks
some_marks chart rule accepted unrefused =
    let left = answerable false chart rule marks scratch in (
      left.1,
      record {
        marks = marks;
        scratch = scratch;
        answer = left.0;
        new_scratch = left.2;
        checked = left.3;
        accepted = ap (λ (o : Outcome). o.number) (left.3.answer ∙ success_answered);
      },
    )
  where
    marks : List ℕ
    marks = replicate (node_count rule * state_count chart) 0

    scratch : List ℕ
    scratch = replicate (size_of false chart rule) 0

    success_answered : check_refusal chart rule marks scratch ≡ success
    success_answered =
        (judge_accepts false chart rule marks scratch).1
        record {
          chart_accepted = accepted;
          rule_accepted = unrefused;
          bounds = λ e. absurd (false≢true e);
          table = le_of_eq (sym (length-replicate {A = ℕ} (node_count rule * state_count chart) 0));
          room = le_of_eq (sym (length-replicate {A = ℕ} (size_of false chart rule) 0));
        }
