-- The parts of the table as the functions test them, and what is left then to promise of the marks.
use Rattle.std.specs.Prelude.{◌≡◌, Bool, true, List, [], ◌∷◌, ◌++◌, ℕ, ◌*◌, ◌≤◌, ◌<◌, length, get_or}
use Rattle.outcome.specs.declared.Outcome.{Outcome}
use Rattle.outcome.specs.Refusal.{Row, first}
use Rattle.chart.specs.Bytes.{state_count}
use Rattle.chart.specs.Refusals.{chart_table}
use Rattle.chart.specs.Shape.{Passed}
use Rattle.rule.specs.Bytes.{node_count}
use Rattle.rule.specs.Refusals.{rule_table, rule_refusal, minutely, ShortBounds}
use Rattle.loops.specs.Refusal.{loop_row}
use Rattle.nodes.specs.Right.{numbers_for, Right}
use Rattle.room.specs.Room.{room_table}
use Rattle.judge.specs.Judge.{own_rows, size_of}

-- rows 1 to 18, and 63
abbrev pub input_table : Bool → List ℕ → List ℕ → List ℕ → List ℕ → List Row
input_table counting chart rule marks scratch =
    chart_table chart ++
    rule_table rule ++
    own_rows counting rule ++
    room_table (state_count chart) (node_count rule) (size_of counting chart rule) marks scratch

-- a chart that passes checks 1 to 9, a rule that passes 10 to 16, and 63 where every until is counted, room for their
-- marks, and numbers to work on
pub record Judgeable (counting : Bool) (chart : List ℕ) (n m : ℕ) (rule : List ℕ) (k : ℕ) (marks numbers : List ℕ) :
    Type 0 where
  pub passed : Passed chart n m
  pub nodes : k ≡ node_count rule
  pub unrefused : (rule_refusal rule).number ≡ 0
  pub short : counting ≡ true → ShortBounds rule
  pub table : k * n ≤ length marks
  pub size : length numbers ≡ numbers_for (minutely counting rule) n

-- row 19 was tested: the marks are as they were if it is met, else each row holds its node's marks and the rest is kept
pub record Judged (chart : List ℕ) (n : ℕ) (rule : List ℕ) (r : Outcome) (old new : List ℕ) : Type 0 where
  pub answer : r ≡ first (loop_row chart ∷ [])
  pub refused : ¬ (r.number ≡ 0) → new ≡ old
  pub size : length new ≡ length old
  pub rows : r.number ≡ 0 → (t : ℕ) → t < node_count rule → Right chart n rule t new
  pub rest : (j : ℕ) → node_count rule * n ≤ j → get_or new j 0 ≡ get_or old j 0
