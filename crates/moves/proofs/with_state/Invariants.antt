use Prim.Native.Nat.{◌-◌}
use Rattle.moves.proofs.Turns.{Adding}
use Rattle.moves.proofs.with_state.Given as goal

-- Invariant: the links lead to i, and the arrows from s below it were added.
abbrev pub invariant-loop-i : goal.invariant-loop-i
invariant-loop-i l =
    Adding l.chart.bytes.now l.chart.arrows l.s l.i l.initial.grown l.grown l.initial.words l.words

abbrev pub decreases-loop-i : goal.decreases-loop-i
decreases-loop-i l = l.chart.arrows - l.i
