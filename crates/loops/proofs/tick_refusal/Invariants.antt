use Prim.Native.Nat.{ℕ, ◌<◌}
use Rattle.model.specs.Engine.{num}
use Rattle.hints.specs.Values.{value_of}
use Rattle.loops.proofs.tick_refusal.Given as goal

-- Invariant: the numbers before s are above n.
abbrev pub invariant-loop-s : goal.invariant-loop-s
invariant-loop-s l = (v : ℕ) → v < l.s → l.chart.states < value_of (num l.numbers v)
