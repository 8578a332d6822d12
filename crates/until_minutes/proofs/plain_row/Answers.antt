-- Invariant: row t says who makes the until with no bound after k waits.
use mathlib.Core.Path.{refl, sym, subst, ◌∙◌}
use native.Mathlib.Omega.{arith}
use native.Mathlib.Numerals.{add-one}
use Rattle.until_minutes.proofs.Alike.{joins}
use Rattle.until_minutes.proofs.Waits.{Waits, waits_none, waits_more, waits_still, waits_written, waits_ready}
use Rattle.until_minutes.proofs.plain_row.Goals as goal

pub loop-k-init : goal.loop-k-init
loop-k-init c = (refl, waits_none _ _ _ _ _ _ c.requires.1)

pub wait_once-requires : goal.wait_once-requires
wait_once-requires c =
    let inv = c.loop-k.invariant in
    waits_ready _ _ _ _ _ _ inv.1 c.requires.0 inv.0 c.collect_open-ends.auto.words c.collect_open-ends.ensures

pub returns-then-wait_once : goal.returns-then-wait_once
returns-then-wait_once c =
    let l = c.requires.0 in
    let inv = c.loop-k.invariant in
    waits_written _ _ _ _ _ _ (waits_more _ _ _ _ _ _ (joins l.passed) l.operands inv.1 c.wait_once.ensures)
    (waits_still _ _ _ _ _ _ (joins l.passed) l.operands inv.1 c.wait_once.ensures c.if-wait_once.true (omega arith))

pub loop-k-preserved : goal.loop-k-preserved
loop-k-preserved c =
    let a = c.args in
    let l = c.requires.0 in
    let inv = c.loop-k.invariant in (
      c.wait_once.auto.numbers ∙ inv.0,
      subst (λ k. Waits a.all a.chart.bytes.now a.chart.states a.t a.node a.marks.now k c.wait_once.new.marks)
          (sym (add-one c.loop-k._k))
          (waits_more _ _ _ _ _ _ (joins l.passed) l.operands inv.1 c.wait_once.ensures),
    )
