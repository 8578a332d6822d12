-- The table by minutes as numbers: number m × n + s is the last row, up to that with m minutes left, in which s makes
-- it, counted from 1, and 0 if there is none. Row 1 is the row beyond, which is lent as marks.
use Rattle.std.specs.Prelude.{Bool, true, false, cond, ◌&&◌, ◌||◌, not as neg, List, ℕ, zero, suc, ◌+◌, ◌*◌, eqb}
use Rattle.tctl.specs.Formula.{Bound, at_most, at_least, exactly}
use Rattle.model.specs.Engine.{num}
use Rattle.model.specs.Marks.{bit, flag}
use Rattle.minutes.specs.Makes.{Task}
use Rattle.minutes.specs.Untils.{met_with, task_of}
use Rattle.minute_rows.specs.declared.Asked.{Asked}
use Rattle.minute_rows.specs.declared.Met.{Met}
use Rattle.minute_rows.specs.declared.Met.TheVariants.{Always, AtEnd, Never}

module _ (n : ℕ) (beyond numbers : List ℕ) where
  -- the last of the rows below k in which s makes it, counted from 1, as the numbers say
  abbrev pub last_below : ℕ → ℕ → ℕ
  last_below s zero = 0
  last_below s (suc zero) = bit (flag beyond s)
  last_below s (suc (suc m)) = num numbers (m * n + s)

  -- in row r, s makes it, as the numbers say
  abbrev pub answer : ℕ → ℕ → Bool
  answer zero s = flag beyond s
  answer (suc m) s = eqb (num numbers (m * n + s)) (suc (suc m))

-- a bound of which only the kind counts: how a state makes it does not go by c
abbrev pub bare : Met → Bound
bare Always = at_most 0
bare AtEnd = exactly 0
bare Never = at_least 0

-- it is met with none left alone
abbrev pub end_only : Met → Bool
end_only Always = false
end_only AtEnd = true
end_only Never = false

-- it is met with so many minutes left
abbrev pub met_in : Asked → ℕ → Bool
met_in asked minute = met_with (bare asked.met) minute

-- the task that is asked, by the rows of the operands and the row beyond
abbrev pub task_in : Asked → List ℕ → List ℕ → List ℕ → Task
task_in asked p q beyond = task_of asked.all (bare asked.met) (flag p) (flag q) (flag beyond)

-- a state with the marks p and q makes it at once, or with `all` fails it: q is asked for only where the bound is met
abbrev pub stops_by : Bool → Bool → Bool → Bool → Bool
stops_by all met p q = cond all (neg (p || (met && q))) (met && q)
