use mathlib.Core.Path.{◌≡◌}
use Prim.Native.Nat.{◌<◌}
use lib.ListN.{length}
use Rattle.walks.specs.Walk.{Remarked}
use Rattle.walks.proofs.trail.Given as goal

-- Invariant: the numbers changed at their marks alone, and the walk is at a state.
abbrev pub invariant-loop-k : goal.invariant-loop-k
invariant-loop-k l =
    (l.at < l.chart.states) × (length l.numbers ≡ l.chart.states) × Remarked l.initial.numbers l.numbers
