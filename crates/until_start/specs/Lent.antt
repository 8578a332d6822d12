-- What the functions that settle an until ask of what is lent.
use Rattle.std.specs.Prelude.{◌≡◌, Bool, List, ℕ, ◌+◌, ◌*◌, ◌≤◌, length}
use Rattle.chart.specs.Shape.{Passed}
use Rattle.ways.specs.declared.Way.{Way}
use Rattle.ways.specs.Way.{Fits}
use Rattle.visits.specs.Moves.{Ready}

-- a chart that passes checks 1 to 9, a table of marks that holds row t, and a number for each state
pub record Lent (chart : List ℕ) (n m t : ℕ) (marks numbers : List ℕ) : Type 0 where
  pub passed : Passed chart n m
  pub table : t * n + n ≤ length marks
  pub size : length numbers ≡ n

-- a cap in range, and numbers with the sides of some go
pub record Able (way : Way) (numbers : List ℕ) : Type 0 where
  pub fits : Fits way
  pub go : ℕ → Bool
  pub ready : Ready way go numbers
