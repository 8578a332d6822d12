use Rattle.sweeps.specs.Sweep.{Quiet}
use Rattle.sweeps.proofs.last_raising.Given as goal

-- Invariant: the arrows from i on and before k raise no number.
abbrev pub invariant-loop-i : goal.invariant-loop-i
invariant-loop-i l = Quiet l.way l.chart.bytes.now l.floor l.i l.k l.numbers
