-- The walk down a table of lent numbers: row k lies at k × n.
use Rattle.std.specs.Prelude.{Bool, ◌&&◌, List, [], ◌∷◌, ℕ, zero, suc, ◌+◌, ◌*◌, ◌≤◌, ◌<◌, length, eqb}
use Rattle.outcome.specs.Refusal.{lowest}
use Rattle.model.specs.Engine.{num}
use Rattle.chart.specs.Bytes.{arrow_count, arrow_words, arrow_of}
use Rattle.chart.specs.Shape.{Passed}
use Rattle.shown.specs.Shown.{Position, place}
use Rattle.shown.specs.Exact.{or_number}
use Rattle.step_numbers.specs.declared.Measure.{Measure}
use Rattle.step_numbers.specs.Target.{highest, pick_of, Capped}
use Rattle.step_numbers.specs.Stored.{live, weight_of, settled_of}

module _ (measure : Measure) (chart : List ℕ) (n : ℕ) (table : List ℕ) where
  -- arrow i leaves s and makes just the number of s in the row after the one at `at`
  abbrev pub is_tight : ℕ → ℕ → ℕ → Bool
  is_tight at s i =
      let a = arrow_of (arrow_words chart i) in
      eqb a.start s &&
      eqb (settled_of measure (num table (at + a.end) + weight_of measure a)) (num table (at + n + s))

  -- the lowest such arrow's number, or 0
  unfoldable pub tight_arrow : ℕ → ℕ → ℕ
  tight_arrow at s = or_number 0 (lowest (is_tight at s) (arrow_count chart))

  -- k steps from s, each by the lowest such arrow
  unfoldable pub walk_on : ℕ → ℕ → List Position
  walk_on zero s = place s 0 ∷ []
  walk_on (suc k) s =
      let a = arrow_of (arrow_words chart (tight_arrow (k * n) s)) in
      place s (pick_of measure a) ∷ walk_on k a.end

-- what is asked: rows 0 to k, their numbers no higher than is asked for, and room for k + 1 positions of 6 bytes
pub record Walkable (measure : Measure) (chart : List ℕ) (n m k s : ℕ) (table out : List ℕ) : Type 0 where
  pub passed : Passed chart n m
  pub capped : Capped measure
  pub state : s < n
  pub rows : suc k * n ≤ length table
  pub low : (j : ℕ) → j < suc k * n → num table j ≤ live + highest
  pub room : 6 * suc k ≤ length out
