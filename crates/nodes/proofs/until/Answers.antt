-- Each operation and kind of bound has its row; that of A is of the waits up to c + 1, plain, or of at least c.
use native.Mathlib.Omega.{arith}
use borrow.Author.Tests.{ne_eqb}
use Rattle.chart.proofs.Reading.{shaped}
use Rattle.operands.proofs.Rows.{written_as}
use Rattle.until_once.proofs.Untils.{all_at_most, all_plain}
use Rattle.nodes.proofs.Bounds.{is_at_most, is_at_least}
use Rattle.nodes.proofs.until.Goals as goal

pub returns-then-node-eq-AT_MOST-2 : goal.returns-then-node-eq-AT_MOST-2
returns-then-node-eq-AT_MOST-2 c =
    rw (ne_eqb _ _ c.if-node-eq-SOME_UNTIL.false, is_at_most _ c.if-node-eq-AT_MOST-2.true)
    (written_as c.unhindered.ensures (all_at_most _ _ _ _ _))

pub overflow_cast-chart : goal.overflow_cast-chart
overflow_cast-chart c = omega (arith, (shaped c.args.chart.passed).few_states)

pub unhindered-requires-then-node-eq0 : goal.unhindered-requires-then-node-eq0
unhindered-requires-then-node-eq0 c =
    let p = c.requires in (p.0, p.1, omega (arith, (shaped c.args.chart.passed).few_states))

pub returns-then-node-eq0 : goal.returns-then-node-eq0
returns-then-node-eq0 c =
    let p = c.requires in
    rw (ne_eqb _ _ c.if-node-eq-SOME_UNTIL.false, is_at_least _ c.if-node-eq-AT_MOST-2.false p.3 p.4)
    (written_as c.unhindered-then-node-eq0.ensures (all_plain _ _ _ _ c.if-node-eq0.true))
