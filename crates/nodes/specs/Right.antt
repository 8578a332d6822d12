-- When rows of marks are right.
use Rattle.std.specs.Prelude.{◌≡◌, Bool, true, cond, List, ℕ, ◌+◌, ◌*◌, ◌≤◌, ◌<◌, length, get_or}
use Rattle.tctl.specs.Accepted.{Accepted}
use Rattle.model.specs.Decide.{holds}
use Rattle.model.specs.Marks.{bit}
use Rattle.chart.specs.Bytes.{chart_of}
use Rattle.chart.specs.Shape.{Passed}
use Rattle.rule.specs.Bytes.{node_count, node_words}
use Rattle.rule.specs.Refusals.{rule_refusal, ShortBounds}
use Rattle.rule.specs.Formula.{formula_at}

-- how many numbers are worked on: one for each state, or, where minutes are counted, one for each minute from 0 to 255
-- and each state
abbrev pub numbers_for : Bool → ℕ → ℕ
numbers_for minutely n = cond minutely (256 * n) n

-- A chart that passes checks 1 to 9, a table of marks that holds row t, and enough numbers to work on. Every until is
-- counted only on charts that are accepted.
pub record Workable (counting minutely : Bool) (chart : List ℕ) (n m t : ℕ) (marks numbers : List ℕ) : Type 0 where
  pub passed : Passed chart n m
  pub table : t * n + n ≤ length marks
  pub room : numbers_for minutely n ≤ length numbers
  pub accepted : counting ≡ true → Accepted (chart_of chart)

-- node t of a rule that passes checks 10 to 16, and 63 where every until is counted
pub record AcceptedNode (counting : Bool) (rule : List ℕ) (t : ℕ) : Type 0 where
  pub unrefused : (rule_refusal rule).number ≡ 0
  pub inside : t < node_count rule
  pub short : counting ≡ true → ShortBounds rule

-- row u holds the marks of node u
abbrev pub Right : List ℕ → ℕ → List ℕ → ℕ → List ℕ → Type 0
Right chart n rule u marks =
    (s : ℕ) → s < n → get_or marks (u * n + s) 0 ≡ bit (holds (chart_of chart) (formula_at rule u) s)

-- the rows of node t's operands hold their marks
pub record OperandsRight (chart : List ℕ) (n : ℕ) (rule : List ℕ) (t : ℕ) (marks : List ℕ) : Type 0 where
  pub left : 2 ≤ (node_words rule t).operation → Right chart n rule (node_words rule t).a marks
  pub right : 3 ≤ (node_words rule t).operation → Right chart n rule (node_words rule t).b marks
