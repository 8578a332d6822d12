-- Invariant: the numbers changed at their marks alone, and the walk is at a state.
use native.Mathlib.Omega.{arith}
use Rattle.chart.proofs.Reading.{shaped}
use Rattle.walks.proofs.trail.Goals as goal

pub overflow_cast-place : goal.overflow_cast-place
overflow_cast-place c = omega (arith, c.loop-k.invariant.0, (shaped c.args.chart.passed).few_states)
