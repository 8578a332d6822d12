-- What check accepts, and count. The quoted conditions are of 01, "Refused with number and place", and of 02, papers 2
-- and 7.
use Rattle.std.specs.Prelude.{◌≡◌, Bool, true, List, ℕ, ◌*◌, ◌≤◌, length}
use Rattle.outcome.specs.Refusal.{success}
use Rattle.chart.specs.Bytes.{state_count}
use Rattle.rule.specs.Bytes.{node_count}
use Rattle.rule.specs.Refusals.{rule_refusal, ShortBounds}
use Rattle.loops.specs.Accepted.{AcceptedChart}
use Rattle.judge.specs.Judge.{size_of}

-- an accepted chart, an accepted rule, whose bounds go to 255 where every until is counted, and room for the marks and
-- for 4n numbers, or 256 × n
pub record Acceptable (counting : Bool) (chart rule marks scratch : List ℕ) : Type 0 where
  pub chart_accepted : AcceptedChart chart
  pub rule_accepted : rule_refusal rule ≡ success
  -- not "a bound above 255"
  pub bounds : counting ≡ true → ShortBounds rule
  -- not "marks table under k × n bytes"
  pub table : node_count rule * state_count chart ≤ length marks
  -- not "scratch under 4n numbers"; where every until is counted, or with kind 3, 256 × n: "18 follows the size"
  pub room : size_of counting chart rule ≤ length scratch
