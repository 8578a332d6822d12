use Rattle.initial.proofs.Cleared.{Cleared}
use Rattle.initial.proofs.clear_each.Given as goal

-- Invariant: the first i arrows were tried.
abbrev pub invariant-loop-i : goal.invariant-loop-i
invariant-loop-i l = Cleared l.chart.bytes.now l.good l.i l.initial.numbers l.numbers
