-- Each return is the text under the tests that led there; an empty input has no last byte.
use Prim.Native.Nat.{◌-◌}
use native.Mathlib.Omega.{arith}
use borrow.Author.Tests.{eq-eqb, ne_eqb}
use lib.ListN.{length, get_or-eq_default}
use Rattle.typed_call.specs.Answer.{typed}
use Rattle.typed_call.proofs.trimmed.Goals as goal

pub returns-then-input-eq0 : goal.returns-then-input-eq0
unfolding typed
returns-then-input-eq0 c =
    let input = c.args.input.now in
    rw (get_or-eq_default input 0 {n = length input - 1} (omega arith))

pub returns-then-input-last-eq10 : goal.returns-then-input-last-eq10
unfolding typed
returns-then-input-last-eq10 c = rw (eq-eqb _ 10 c.if-input-last-eq10.true)

pub returns : goal.returns
unfolding typed
returns c = rw (ne_eqb _ 10 c.if-input-last-eq10.false)
