-- The rows over the until with no bound; at least 0 is that itself.
use mathlib.Core.Path.{refl}
use mathlib.Core.Bool.{true, false}
use Rattle.tctl.specs.Formula.{at_least}
use Rattle.until_minutes.proofs.Alike.{joins}
use Rattle.until_minutes.proofs.FromRows.{from_rows, from_met, from_failed}
use Rattle.until_minutes.proofs.at_least.Goals as goal

pub returns-then-all : goal.returns-then-all
returns-then-all c =
    let a = c.args in
    rw c.if-all.true
    (from_failed true a.chart.bytes.now a.chart.states a.t a.node a.marks.now c.if-node-eq0.true refl
    c.plain_row.ensures c.fill.ensures)

pub returns-then-node-eq0 : goal.returns-then-node-eq0
returns-then-node-eq0 c =
    let a = c.args in
    rw c.if-all.false
    (from_met false a.chart.bytes.now a.chart.states a.t a.node a.marks.now c.if-node-eq0.true refl
    c.plain_row-then-node-eq0.ensures)

pub returns : goal.returns
returns c =
    let l = c.requires.minutes_lent.0 in
    from_rows _ _ _ _ _ _ (joins l.passed) l.operands (at_least _) refl c.plain_row-2.ensures c.last_row.ensures
