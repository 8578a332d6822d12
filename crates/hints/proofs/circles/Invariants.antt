-- Arrows through states that are gone through lead from r to the state.
use Rattle.std.proofs.Common.{Bool, ℕ, ◌<◌}
use Rattle.chart.specs.Bytes.{chart_of}
use Rattle.hints.specs.Values.{Open}
use Rattle.hints.proofs.Led.{Led}
use Rattle.hints.proofs.circles.Given as goal

abbrev pub invariant-loop : goal.invariant-loop
invariant-loop l = (l.at < l.chart.states) ×
    ((go : ℕ → Bool) → Open go l.numbers → Led (chart_of l.chart.bytes.now) go l.r l.at l.passes)
