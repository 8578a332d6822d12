-- Rows of numbers that are written one after another, and what the functions promise of them.
use Rattle.std.specs.Prelude.{Option, MatchOption, IfSome}
use Rattle.std.specs.Prelude.{◌≡◌, cond, List, ℕ, ◌+◌, ◌*◌, ◌≤◌, ◌<◌, max, length, set, eqb}
use Rattle.std.proofs.Math.Option.{none, some}
use Rattle.base.specs.Entries.{Entries}
use Rattle.tctl.specs.Chart.{Chart, Arrow}
use Rattle.model.specs.Engine.{num}
use Rattle.model.specs.Marks.{flag}
use Rattle.chart.specs.Bytes.{arrow_count, arrow_words, arrow_of, chart_of}
use Rattle.chart.specs.Shape.{Passed}
use Rattle.shown.specs.Steps.{Quest, best, by_step}
use Rattle.shown.specs.Search.{by_steps, fewest_steps}
use Rattle.step_numbers.specs.declared.Measure.{Measure}
use Rattle.step_numbers.specs.declared.Target.{Target}
use Rattle.step_numbers.specs.Target.{highest, go_of, base_of, quest_for, Fair}
use Rattle.step_numbers.specs.Slots.{Slots}
use Rattle.step_numbers.specs.Stored.{live, stored_of, weight_of, settled_of}

-- the rows of marks of two operands
pub record Operands (n : ℕ) (p q : List ℕ) : Type 0 where
  pub first : length p ≡ n
  pub second : length q ≡ n

-- the weights of a chart's arrows, and that its slots are in range
pub record Weights (measure : Measure) (chart weights : List ℕ) : Type 0 where
  pub room : arrow_count chart ≤ length weights
  pub slots : Slots chart
  pub are : (i : ℕ) → i < arrow_count chart → num weights i ≡ weight_of measure (arrow_of (arrow_words chart i))

-- weights that a sum with a stored number has room for
pub record Light (chart weights : List ℕ) : Type 0 where
  pub room : arrow_count chart ≤ length weights
  pub low : (i : ℕ) → i < arrow_count chart → num weights i ≤ highest

-- the row of no step
abbrev pub row_base : Target → List ℕ → List ℕ → ℕ → ℕ
row_base target p q s = stored_of target.measure (base_of target.all target.full (flag p s) (flag q s))

-- what an arrow from s makes with its weight of a row's number
abbrev pub sums_by : Measure → (ℕ → ℕ) → ℕ → Arrow → ℕ
sums_by measure row s a = cond (eqb a.start s) (row a.end + weight_of measure a) 0

-- the row at `at` and a row after it lie in the table, and its numbers are no higher than is asked for
pub record RowLow (n at : ℕ) (table : List ℕ) : Type 0 where
  pub room : at + n + n ≤ length table
  pub low : (e : ℕ) → e < n → num table (at + e) ≤ live + highest

-- arrow i was tried: the number of its start in the row after is no less than the sum
pub record Relaxed (chart : List ℕ) (n i at : ℕ) (weights old new : List ℕ) : Type 0 where
  pub is :
      let a = arrow_of (arrow_words chart i) in
      let to = at + n + a.start in
      new ≡ set old to (max (num old to) (num old (at + a.end) + num weights i))

-- all arrows were: each number of the row after is raised to the best sum
abbrev pub row_relaxed : Measure → List ℕ → ℕ → ℕ → List ℕ → ℕ → ℕ
row_relaxed measure chart at n old s =
    max (num old (at + n + s)) (best (sums_by measure (λ e. num old (at + e)) s) (chart_of chart).arrows)

-- all arrows were tried, with weights of whatever measure
abbrev pub RelaxedAll : List ℕ → ℕ → ℕ → List ℕ → List ℕ → List ℕ → Type 0
RelaxedAll chart n at weights old new =
    (measure : Measure) → Weights measure chart weights →
    Entries (at + n) n (row_relaxed measure chart at n old) old new

-- the numbers that the sums stand for, at states that it goes on from
abbrev pub row_settled : Target → List ℕ → List ℕ → ℕ → List ℕ → ℕ → ℕ
row_settled target p q at old s =
    cond (go_of target.all (flag p s) (flag q s)) (settled_of target.measure (num old (at + s))) 0

-- the row of one step more
abbrev pub row_next : Target → List ℕ → List ℕ → List ℕ → (ℕ → ℕ) → ℕ → ℕ
row_next target chart p q row s =
    cond (go_of target.all (flag p s) (flag q s))
    (settled_of target.measure (best (sums_by target.measure row s) (chart_of chart).arrows))
    0

-- rows 0 to k of the table, one after another
abbrev pub Tabled : Chart → Measure → Quest → ℕ → ℕ → List ℕ → Type 0
Tabled G measure z n k table =
    (j s : ℕ) → j ≤ k → s < n → num table (j * n + s) ≡ stored_of measure (by_step G.arrows z j s)

-- what is asked of what is lent: room for rows 0 to 256
pub record TableReady (target : Target) (chart : List ℕ) (n m : ℕ) (p q : List ℕ) (s : ℕ) (table : List ℕ) : Type 0 where
  pub passed : Passed chart n m
  pub operands : Operands n p q
  pub fair : Fair target
  pub state : s < n
  pub room : 257 * n ≤ length table

-- r are the fewest steps from s, at most 256, if any are enough, and the rows up to them are in the table
pub record Found
    (target : Target)
    (chart : List ℕ)
    (n : ℕ)
    (p q : List ℕ)
    (s : ℕ)
    (r : Option ℕ)
    (table : List ℕ) : Type 0 where
  pub answer :
      let few = fewest_steps (chart_of chart).arrows (by_steps (quest_for target (flag p) (flag q))) s in
      MatchOption r (few ≡ none) (λ k. few ≡ some k)
  pub most : IfSome r (λ k. k ≤ 256)
  pub slots : Slots chart
  pub rows :
      IfSome r (λ k. Tabled (chart_of chart) target.measure (quest_for target (flag p) (flag q)) n k table)
