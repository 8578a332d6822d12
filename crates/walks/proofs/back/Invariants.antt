use mathlib.Core.Path.{◌≡◌}
use mathlib.Core.Bool.{true}
use lib.ListN.{length}
use Rattle.walks.specs.Walk.{Walks}
use Rattle.walks.proofs.back.Given as goal

-- Invariant: so far the numbers went their way.
abbrev pub invariant-loop-x : goal.invariant-loop-x
invariant-loop-x l = (length l.numbers ≡ l.chart.states) ×
    Walks l.way l.chart.bytes.now l.chart.arrows true l.initial.numbers l.numbers
