-- Invariant: the numbers before s are above n.
use mathlib.Core.Path.{refl}
use native.Mathlib.Omega.{arith}
use Rattle.chart.proofs.Reading.{shaped}
use Rattle.loops.proofs.Ticks.{row_met, row_unmet}
use Rattle.loops.proofs.tick_refusal.Goals as goal

pub at-requires : goal.at-requires
at-requires c = omega (arith, (shaped c.args.chart.passed).few_states)

pub returns-then-value-chart : goal.returns-then-value-chart
returns-then-value-chart c =
    row_met c.args.chart.passed c.count_ticks.new.numbers c.count_ticks.ensures c.loop-s.s c.loop-s-test.true
    c.loop-s.invariant (omega (arith, c.if-value-chart.true, c.value.ensures)) c.at.ensures

pub returns : goal.returns
returns c =
    row_unmet c.args.chart.passed c.count_ticks.new.numbers c.count_ticks.ensures
    (λ v l. c.loop-s.invariant v (omega arith)) refl
