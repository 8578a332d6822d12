-- Where no number is 0 every state is left by an arrow with most above 0; else ticks are counted.
use mathlib.Core.Path.{refl}
use borrow.Author.Rules.{rules}
use Rattle.loops.proofs.LeftInTime.{left_unmet}
use Rattle.loops.proofs.loop_refusal.Goals as goal

pub returns-then-none_zero : goal.returns-then-none_zero
returns-then-none_zero c =
    left_unmet c.args.chart.passed c.hint_timed.new.numbers (search rules) c.hint_timed.ensures
    (c.none_zero.ensures.0 c.if-none_zero.true) refl
