-- What the functions that settle an until minute by minute ask of what is lent, and what they promise of row t.
use Rattle.std.specs.Prelude.{◌≡◌, Bool, true, cond, not as neg, List, ℕ, ◌+◌, ◌*◌, ◌≤◌, ◌<◌, length, get_or, eqb}
use Rattle.model.specs.Marks.{bit, mark}
use Rattle.chart.specs.Bytes.{arrow_count, chart_of}
use Rattle.chart.specs.Shape.{Passed}
use Rattle.rule.specs.declared.NodeWords.{NodeWords}
use Rattle.fill.specs.Written.{RowWritten}
use Rattle.operands.specs.FromOperands.{OperandsBelow}
use Rattle.minutes.specs.Makes.{Task}
use Rattle.minutes.specs.Table.{makes}
use Rattle.minutes.specs.Untils.{task_of}
use Rattle.moves.specs.declared.Ends.{Ends}
use Rattle.moves.specs.Moves.{is_open, Collected}
use Rattle.minute_rows.specs.declared.Asked.{Asked}
use Rattle.minute_rows.specs.declared.Met.{Met}
use Rattle.minute_rows.specs.declared.Met.TheVariants.{Always, AtEnd}
use Rattle.minute_rows.specs.Numbers.{bare}

-- a chart that passes checks 1 to 9, a table of marks that holds row t, two operands below it, and a number for each
-- minute from 0 to 255 and each state
pub record MinutesLent (chart : List ℕ) (n m t : ℕ) (w : NodeWords) (marks numbers : List ℕ) : Type 0 where
  pub passed : Passed chart n m
  pub table : t * n + n ≤ length marks
  pub operands : OperandsBelow t w
  pub room : 256 * n ≤ length numbers

-- row t says f
abbrev pub Says : ℕ → ℕ → (ℕ → Bool) → List ℕ → Type 0
Says n t f marks = (s : ℕ) → s < n → get_or marks (t * n + s) 0 ≡ bit (f s)

-- what is asked of the rows of node w's operands, with row t as the row beyond
abbrev pub task_by : Asked → ℕ → ℕ → NodeWords → List ℕ → Task
task_by asked n t w marks =
    task_of asked.all (bare asked.met) (mark n marks w.a) (mark n marks w.b) (mark n marks t)

-- in row r, s makes it
abbrev pub makes_by : Asked → List ℕ → ℕ → ℕ → NodeWords → List ℕ → ℕ → ℕ → Bool
makes_by asked chart n t w marks r s = makes (chart_of chart).arrows n (task_by asked n t w marks) r s

-- when a bound of at most, kind 1, or of exactly is met
abbrev pub met_by : ℕ → Met
met_by kind = cond (eqb kind 1) Always AtEnd

-- what the row of an until says: who meets it, or who does not fail it
abbrev pub mark_of : Bool → Bool → Bool
mark_of all made = cond all (neg made) made

-- an until with no bound: to meet it, or with `all` to fail it, while no minute is left
abbrev pub plain_asked : Bool → Asked
plain_asked all = record { all = all; met = Always }

-- it is open at s
abbrev pub open_by : ℕ → NodeWords → List ℕ → ℕ → Bool
open_by n w marks s = is_open true (mark n marks w.a s) (mark n marks w.b s)

-- a table of marks that holds row t, two operands below it, and a word for every arrow
pub record MarksCollectable (chart : List ℕ) (n m t : ℕ) (w : NodeWords) (marks words : List ℕ) : Type 0 where
  pub passed : Passed chart n m
  pub table : t * n + n ≤ length marks
  pub operands : OperandsBelow t w
  pub long : length words ≡ 2048

-- the arrows are collected, from where an until with no bound is open
pub record WaitReady
    (chart : List ℕ)
    (n t : ℕ)
    (w : NodeWords)
    (ends : Ends)
    (words marks numbers : List ℕ) : Type 0 where
  pub lent : MinutesLent chart n (arrow_count chart) t w marks numbers
  pub long : length words ≡ 2048
  pub collected : Collected chart (open_by n w marks) ends words

-- it was waited once: row t says who makes it with no minute left, and r says yes only where it said so before
pub record Waited (all : Bool) (chart : List ℕ) (n t : ℕ) (w : NodeWords) (r : Bool) (old new : List ℕ) : Type 0 where
  pub written : RowWritten n t (makes_by (plain_asked all) chart n t w old 1) old new
  pub still : r ≡ true → (s : ℕ) → s < n → makes_by (plain_asked all) chart n t w old 1 s ≡ mark n old t s
