use mathlib.Core.Path.{◌≡◌}
use mathlib.Core.Bool.{Bool}
use Prim.Native.Nat.{ℕ, ◌≤◌}
use lib.ListN.{length}
use Rattle.std.specs.Prelude.{unwrap_or}
use Rattle.hints.specs.Values.{values}
use Rattle.visits.specs.Moves.{Ready}
use Rattle.sweeps.specs.Sweep.{Still, after}
use Rattle.sweeps.proofs.Swept.{Tried}
use Rattle.sweeps.proofs.sweep.Given as goal

-- Invariant: the arrows after the next that raises a number were tried.
abbrev pub invariant-loop-next : goal.invariant-loop-next
invariant-loop-next l =
    (after 0 l.next ≤ l.chart.arrows) × (unwrap_or l.last l.chart.arrows ≤ l.chart.arrows) ×
    (length l.numbers ≡ l.chart.states) ×
    ((go : ℕ → Bool) → Ready l.way go l.initial.numbers →
    Still l.way l.chart.bytes.now go 0 l.floor (values l.initial.numbers) →
    Tried l.way l.chart.bytes.now l.chart.arrows go l.next l.last l.initial.numbers l.numbers)

abbrev pub decreases-loop-next : goal.decreases-loop-next
decreases-loop-next l = after 0 l.next
