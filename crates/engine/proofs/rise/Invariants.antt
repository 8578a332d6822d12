use mathlib.Core.Path.{◌≡◌}
use mathlib.Core.Bool.{Bool}
use Prim.Native.Nat.{ℕ, ◌≤◌}
use lib.ListN.{length}
use Rattle.hints.specs.Values.{values}
use Rattle.visits.specs.Moves.{Ready, left}
use Rattle.sweeps.specs.Sweep.{Still}
use Rattle.engine.proofs.OnTheWay.{OnTheWay}
use Rattle.engine.proofs.rise.Given as goal

-- Invariant: the numbers are on their way, after so many sweeps, and the arrows before the floor raise none.
abbrev pub invariant-loop-way : goal.invariant-loop-way
invariant-loop-way l =
    (l.done ≤ l.chart.states) × (l.floor ≤ l.chart.arrows) × (length l.row ≡ length l.initial.row) ×
    (length l.numbers ≡ l.chart.states) ×
    ((go : ℕ → Bool) → Ready l.way go l.initial.numbers →
    OnTheWay l.way l.chart.bytes.now go l.done l.initial.numbers l.numbers ×
    Still l.way l.chart.bytes.now go 0 l.floor (values l.numbers))

abbrev pub decreases-loop-way : goal.decreases-loop-way
decreases-loop-way l = left l.way (values l.numbers)
