-- The third demand, the detail rule. The quoted sentences are of 01.
use Rattle.std.specs.Prelude.{◌≡◌, ◌↔◌, true, List, ℕ, ◌+◌, ◌*◌, ◌-◌, get_or}
use Rattle.tctl.specs.Holds.{Holds}
use Rattle.tctl.specs.Kind.{Runs, is_of}
use Rattle.tctl.specs.Detail.{Detail, Carries}
use Rattle.outcome.specs.declared.Outcome.{Outcome}
use Rattle.outcome.specs.Refusal.{success}
use Rattle.chart.specs.Bytes.{state_count, chart_of}
use Rattle.rule.specs.Bytes.{node_count}
use Rattle.rule.specs.Formula.{formula_of}
use Rattle.rule.specs.Refusals.{rule_refusal}
use Rattle.loops.specs.Accepted.{AcceptedChart}
use Rattle.map.specs.Bytes.{entry, MapFormat}
use Rattle.call_map.specs.Refusals.{map_refusal}
use Rattle.call_check.specs.Check.{Checked}

-- what map check asks of a detail chart d, an overview o and a map p: both charts accepted, the map in its format, and
-- the detail one under the overview
pub record Premises (d o p : List ℕ) : Type 0 where
  pub detail : AcceptedChart d
  pub overview : AcceptedChart o
  pub map : MapFormat p (state_count d)
  -- a state s "stands for the overview state that entry" s "of the map names"
  pub under : Detail (chart_of d) (chart_of o) (entry p)

-- map check accepts just that
abbrev pub MapCheckExact : Type 0
MapCheckExact = (d o p : List ℕ) → (map_refusal d o p ≡ success) ↔ Premises d o p

-- check "has accepted that chart with that rule", and left these marks; "marks table and scratch are any that check
-- accepts"
pub record Accepts (chart rule newMarks : List ℕ) : Type 0 where
  pub marks : List ℕ
  pub scratch : List ℕ
  pub answer : Outcome
  pub new_scratch : List ℕ
  pub checked : Checked chart rule marks scratch answer newMarks new_scratch
  pub accepted : answer.number ≡ 0

-- "byte (k − 1) × n + s of the marks is 1; n is that chart's own"
abbrev pub Marked : List ℕ → List ℕ → List ℕ → ℕ → Type 0
Marked chart rule newMarks s = get_or newMarks ((node_count rule - 1) * state_count chart + s) 0 ≡ 1

-- what it says of a rule r, for each kind that r has: "A rule of both kinds counts as of each."
pub record DetailRule (d o p r : List ℕ) : Type 0 where
  -- "with the second demand's 'holds' in place of 'marked'"
  pub meaning :
      (k : Runs) → is_of k (formula_of r) ≡ true →
      Carries k (state_count d) (entry p) (Holds (chart_of o) (formula_of r)) (Holds (chart_of d) (formula_of r))
  -- "and of the bytes that check writes"
  pub bytes :
      (k : Runs) → is_of k (formula_of r) ≡ true →
      (over under : List ℕ) → Accepts o r over → Accepts d r under →
      Carries k (state_count d) (entry p) (Marked o r over) (Marked d r under)

-- "one claim, for every two charts, map and rule that meet its premises": that map check and the rule's checks accept
abbrev pub ThirdDemand : Type 0
ThirdDemand = (d o p r : List ℕ) → map_refusal d o p ≡ success → rule_refusal r ≡ success → DetailRule d o p r
