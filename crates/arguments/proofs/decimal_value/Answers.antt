-- Invariant: the text from the index on, after digits that stand for the value, makes the same number as all of it.
use mathlib.Core.Path.{sym, ◌∙◌}
use native.Mathlib.Omega.{arith}
use Rattle.arguments.specs.Argument.{argument_of}
use Rattle.arguments.proofs.Number.{number_more, number_other, number_done}
use Rattle.arguments.proofs.decimal_value.Goals as goal

pub returns-then-is_empty : goal.returns-then-is_empty
unfolding argument_of
returns-then-is_empty c = rw (← c.if-is_empty.ensures)

pub loop-byte-init : goal.loop-byte-init
unfolding argument_of
loop-byte-init c = (omega arith, rw (← c.if-is_empty.ensures))

pub returns-then-not-is_digit : goal.returns-then-not-is_digit
returns-then-not-is_digit c =
    let other = sym c.is_digit.ensures ∙ c.if-not-is_digit.true in
    sym (c.loop-byte.invariant.1 ∙ number_other c.args.text.now _ _ c.loop-byte-test.true other)

pub loop-byte-preserved : goal.loop-byte-preserved
loop-byte-preserved c =
    let digit = sym c.is_digit.ensures ∙ c.if-not-is_digit.false in
    let e = c.with_digit-value.ensures in
    let more = number_more c.args.text.now _ _ c.loop-byte-test.true digit e in
    (omega (arith, e), c.loop-byte.invariant.1 ∙ more)

pub returns : goal.returns
returns c =
    let loop = c.loop-byte in
    sym (loop.invariant.1 ∙ number_done c.args.text.now loop.value loop.byte-index loop.invariant.0 (omega arith))
