-- What the thirteen items promise: "Marks of the last node, states in order", about the meaning.
use Rattle.std.specs.Prelude.{◌≡◌, ◌⊎◌, ℕ, ◌<◌, length, get_or}
use Rattle.tctl.specs.Chart.{states}
use Rattle.tctl.specs.Holds.{Holds}
use Rattle.outcome.specs.Refusal.{success}
use Rattle.chart.specs.Bytes.{chart_of}
use Rattle.rule.specs.Refusals.{rule_refusal}
use Rattle.rule.specs.Formula.{formula_of}
use Rattle.loops.specs.Accepted.{AcceptedChart}
use Rattle.claim_items.specs.Items.{Item}

-- chart and rule are accepted, each state has a mark, 1 just where the last node holds and 0 just where not
pub record ItemRight (it : Item) : Type 0 where
  pub chart : AcceptedChart it.chart
  pub rule : rule_refusal it.rule ≡ success
  pub each : length it.marks ≡ states (chart_of it.chart)
  pub digit :
      (s : ℕ) → s < states (chart_of it.chart) → (get_or it.marks s 0 ≡ 1) ⊎ (get_or it.marks s 0 ≡ 0)
  pub marked :
      (s : ℕ) → s < states (chart_of it.chart) → get_or it.marks s 0 ≡ 1 →
      Holds (chart_of it.chart) (formula_of it.rule) s
  pub unmarked :
      (s : ℕ) → s < states (chart_of it.chart) → get_or it.marks s 0 ≡ 0 →
      Holds (chart_of it.chart) (formula_of it.rule) s → ⊥
