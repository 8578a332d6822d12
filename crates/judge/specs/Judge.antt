-- A chart and a rule judged: check, and the call that counts minutes. The quoted sentences are of 01, "Calls" and "Refused
-- with number and place", and of 02, papers 2 and 7.
use Rattle.std.specs.Prelude.{◌≡◌, ◌↔◌, Bool, cond, ◌||◌, List, [], ◌∷◌, ◌++◌, ℕ, ◌+◌, ◌*◌, ◌<◌, ◌/◌, ◌%◌, get_or, drop, replicate, eqb}
use Rattle.base.specs.Tabulate.{tabulate}
use Rattle.tctl.specs.Holds.{Holds}
use Rattle.model.specs.Decide.{holds}
use Rattle.model.specs.Marks.{bit}
use Rattle.outcome.specs.declared.Outcome.{Outcome}
use Rattle.outcome.specs.Refusal.{Row, first}
use Rattle.chart.specs.Bytes.{state_count, chart_of}
use Rattle.chart.specs.Refusals.{chart_table}
use Rattle.rule.specs.Bytes.{node_count}
use Rattle.rule.specs.Refusals.{rule_table, bound_row, minutely}
use Rattle.rule.specs.Formula.{formula_at}
use Rattle.loops.specs.Refusal.{loop_row}
use Rattle.room.specs.Room.{room_table, size_for}

-- "With kind 3 check wants 256 × n scratch numbers" (02, paper 7): how many are asked for, and cleared
abbrev pub size_of : Bool → List ℕ → List ℕ → ℕ
size_of counting chart rule = size_for (minutely counting rule) (state_count chart)

-- "63 after check 16": where every until is counted
abbrev pub own_rows : Bool → List ℕ → List Row
own_rows counting rule = cond counting (bound_row rule ∷ []) []

-- "Check tests in number order": the chart's rows, the rule's, those of the room lent, and 19; and 63 after 16
unfoldable pub judge_table : Bool → List ℕ → List ℕ → List ℕ → List ℕ → List Row
judge_table counting chart rule marks scratch =
    chart_table chart ++
    rule_table rule ++ own_rows counting rule ++
    room_table (state_count chart) (node_count rule) (size_of counting chart rule) marks scratch ++
    loop_row chart ∷
    []

-- the first row that is met
abbrev pub judge_refusal : Bool → List ℕ → List ℕ → List ℕ → List ℕ → Outcome
judge_refusal counting chart rule marks scratch = first (judge_table counting chart rule marks scratch)

module _ (chart rule : List ℕ) where
  -- "byte t × n + s is 1 if node t holds at state s, else 0, for the first k × n bytes"
  unfoldable pub marks_of : List ℕ
  marks_of =
      let n = state_count chart in
      tabulate (node_count rule * n) (λ j. bit (holds (chart_of chart) (formula_at rule (j / n)) (j % n)))

  -- "later bytes keep their content"; "The marks table is as lent after every refusal."
  unfoldable pub marks_after : ℕ → List ℕ → List ℕ
  marks_after number marks =
      cond (eqb number 0) (marks_of ++ drop (node_count rule * state_count chart) marks) marks

-- "After acceptance, and after refusal 19, its first 4n numbers are 0; beyond those, and after any other refusal, it is
-- as lent." Where minutes are counted, of every until or of the exact ones: "256 × n .. numbers, zero where 4n were".
unfoldable pub scratch_after : Bool → List ℕ → List ℕ → ℕ → List ℕ → List ℕ
scratch_after counting chart rule number scratch =
    let zeros = size_of counting chart rule in
    cond (eqb number 0 || eqb number 19) (replicate zeros 0 ++ drop zeros scratch) scratch

-- a byte is 1 just where the claim is true, and 0 just where it is not
pub record Tells (byte : ℕ) (claim : Type 0) : Type 0 where
  pub yes : (byte ≡ 1) ↔ claim
  pub no : (byte ≡ 0) ↔ ¬ claim

-- byte t × n + s of the marks tells whether node t holds at state s, for every node and every state
abbrev pub Meaning : List ℕ → List ℕ → List ℕ → Type 0
Meaning chart rule marks =
    (t s : ℕ) → t < node_count rule → s < state_count chart →
    Tells (get_or marks (t * state_count chart + s) 0) (Holds (chart_of chart) (formula_at rule t) s)

-- all that is promised: the answer r, and the marks and the scratch afterwards
pub record Promised (counting : Bool) (chart rule marks scratch : List ℕ) (r : Outcome) (newMarks new_scratch : List ℕ) :
    Type 0 where
  pub answer : r ≡ judge_refusal counting chart rule marks scratch
  pub written : newMarks ≡ marks_after chart rule r.number marks
  pub cleared : new_scratch ≡ scratch_after counting chart rule r.number scratch
  pub meaning : r.number ≡ 0 → Meaning chart rule newMarks
