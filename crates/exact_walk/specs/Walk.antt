-- The walk by lent numbers: row m, of m minutes left, lies at m × n.
use Rattle.std.specs.Prelude.{◌≡◌, Bool, List, Option, MatchOption, ℕ, suc, ◌*◌, ◌≤◌, ◌<◌, length}
use Rattle.std.proofs.Math.Option.{none, some}
use Rattle.tctl.specs.Chart.{Arrow}
use Rattle.chart.specs.Bytes.{chart_of}
use Rattle.chart.specs.Shape.{Passed}
use Rattle.shown.specs.Shown.{Position}
use Rattle.shown.specs.Exact.{Onward, first_minutes, walk_down, by_numbers}
use Rattle.exact_table.specs.Rows.{left_in}

-- so many steps are left, by the numbers, of the minutes and the state
abbrev pub steps_in : ℕ → List ℕ → ℕ → ℕ → ℕ → Bool
steps_in n table left m s = by_numbers (left_in n table) left m s

-- rows of up to so many minutes
pub record InRows (n minutes : ℕ) (table : List ℕ) : Type 0 where
  pub few : minutes < 256
  pub rows : suc minutes * n ≤ length table

-- r is the first of the arrow's minutes, of so many left, that leads to `left` steps, if one does
abbrev pub FirstMinutes : Arrow → ℕ → ℕ → ℕ → List ℕ → Option ℕ → Type 0
FirstMinutes a left minutes n table r =
    let first = first_minutes (steps_in n table left) minutes a in
    MatchOption r (first ≡ none) (λ d. first ≡ some d)

-- k steps and m minutes from s, each to a number that is one less
abbrev pub walk_in : List ℕ → ℕ → List ℕ → ℕ → ℕ → ℕ → List Position
walk_in chart n table k m s = walk_down (chart_of chart).arrows (steps_in n table) k m s

-- what is asked: rows of up to c minutes, in which an arrow leads from each number above 0, up to 256, to one less; k
-- is the number of s, and there is room for k + 1 positions of 6 bytes
pub record Walkable (chart : List ℕ) (n m c k s : ℕ) (table out : List ℕ) : Type 0 where
  pub passed : Passed chart n m
  pub state : s < n
  pub inside : InRows n c table
  pub down :
      (left i v : ℕ) → i ≤ c → v < n → left_in n table i v ≡ suc left → suc left < 257 →
      Onward (chart_of chart).arrows (steps_in n table left) i v
  pub steps : left_in n table c s ≡ k
  pub short : k < 257
  pub room : 6 * suc k ≤ length out
