use mathlib.Core.Path.{◌≡◌}
use lib.ListN.{length}
use Rattle.loops.proofs.LeftInTime.{Noted}
use Rattle.loops.proofs.hint_timed.Given as goal

-- Invariant: the arrows before i are noted.
abbrev pub invariant-loop-i : goal.invariant-loop-i
invariant-loop-i l = (length l.numbers ≡ l.chart.states) × Noted l.chart.bytes.now l.i l.numbers
