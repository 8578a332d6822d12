-- Rows of the fewest steps: number m × n + s is that of m minutes left and the state s. And what is asked of what is lent.
use Rattle.std.specs.Prelude.{◌≡◌, false, List, ℕ, suc, ◌+◌, ◌*◌, ◌≤◌, ◌<◌, length}
use Rattle.tctl.specs.Chart.{Arrow}
use Rattle.model.specs.Engine.{num}
use Rattle.model.specs.Marks.{flag}
use Rattle.chart.specs.Bytes.{arrow_count, chart_of}
use Rattle.chart.specs.Shape.{Passed}
use Rattle.shown.specs.Exact.{steps_left}
use Rattle.moves.specs.declared.Ends.{Ends}
use Rattle.moves.specs.Moves.{move_of, open_in, Collected}

abbrev pub left_in : ℕ → List ℕ → ℕ → ℕ → ℕ
left_in n table m s = num table (m * n + s)

-- the rows of the first k numbers of minutes left are those of the fewest steps, by the rows of the operands
pub record RowsLeft (chart : List ℕ) (n : ℕ) (p q : List ℕ) (k : ℕ) (table : List ℕ) : Type 0 where
  pub are :
      (m s : ℕ) → m < k → s < n → left_in n table m s ≡ steps_left (chart_of chart).arrows (flag p) (flag q) m s

-- the second operand's row, and room for the row of so many minutes left
pub record InRow (n minute : ℕ) (q table : List ℕ) : Type 0 where
  pub second : length q ≡ n
  pub room : minute * n + n ≤ length table

-- an arrow between two states, which is tried in minutes that are left, with room for that row
pub record Word (n longest minute : ℕ) (a : Arrow) (table : List ℕ) : Type 0 where
  pub start : a.start < n
  pub end : a.end < n
  pub short : longest ≤ minute
  pub few : minute < 256
  pub room : minute * n + n ≤ length table

-- such are the arrows of some words
pub record Words (n longest minute from to : ℕ) (words table : List ℕ) : Type 0 where
  pub order : from ≤ to
  pub inside : to ≤ length words
  pub arrows : (i : ℕ) → from ≤ i → i < to → Word n longest minute (move_of (num words i)) table

-- the rows with fewer minutes left are there, and the arrows from where the first operand holds are collected
pub record RowReady
    (chart : List ℕ)
    (n minute : ℕ)
    (ends : Ends)
    (words p q table : List ℕ) : Type 0 where
  pub passed : Passed chart n (arrow_count chart)
  pub row : InRow n minute q table
  pub few : minute < 256
  pub long : length words ≡ 2048
  pub collected : Collected chart (open_in false p q) ends words
  pub below : RowsLeft chart n p q minute table

-- a chart that passes checks 1 to 9, the rows of the operands, and room for a row of each minute up to c
pub record StepsReady (chart : List ℕ) (n m c : ℕ) (p q table : List ℕ) : Type 0 where
  pub passed : Passed chart n m
  pub first : length p ≡ n
  pub second : length q ≡ n
  pub few : c < 256
  pub room : suc c * n ≤ length table
