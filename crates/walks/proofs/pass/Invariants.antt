use mathlib.Core.Path.{◌≡◌}
use lib.ListN.{length}
use Rattle.visits.specs.Moves.{Goes}
use Rattle.walks.proofs.pass.Given as goal

-- Invariant: so far the numbers went their way.
abbrev pub invariant-loop-k : goal.invariant-loop-k
invariant-loop-k l = (length l.numbers ≡ l.chart.states) ×
    Goes l.way l.chart.bytes.now l.chart.arrows l.any l.initial.numbers l.numbers
