-- At least c; or at most c, or exactly c, over a row that says no, or yes, everywhere.
use native.Mathlib.Numerals.{add-one}
use lib.Dec.{eqb}
use borrow.Author.Tests.{ne_eqb}
use Rattle.tctl.specs.Formula.{at_least}
use Rattle.until_minutes.proofs.Alike.{joins}
use Rattle.until_minutes.proofs.FromRows.{from_later, from_last}
use Rattle.until_minutes.proofs.until.Goals as goal

-- node t's bound, by the test of its kind
pub returns-then-node-eq-AT_LEAST : goal.returns-then-node-eq-AT_LEAST
returns-then-node-eq-AT_LEAST c =
    let l = c.requires.0 in
    let a = c.args in
    rw c.if-node-eq-AT_LEAST.true
    (from_later a.all a.chart.bytes.now a.chart.states a.t a.node a.marks.now (joins l.passed) l.operands
    (at_least a.node.c) c.begin.ensures c.at_least.ensures)

pub returns : goal.returns
returns c =
    let l = c.requires.0 in
    let a = c.args in
    rw (ne_eqb _ 2 c.if-node-eq-AT_LEAST.false)
    (from_last a.all a.chart.bytes.now a.chart.states a.t a.node a.marks.now (joins l.passed) l.operands
    (eqb a.node.kind 1) c.met_by-met.ensures (add-one _) c.begin.ensures c.last_row.ensures)
