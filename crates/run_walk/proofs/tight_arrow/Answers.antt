-- Invariant: the links lead to i, an arrow from s or none, and no arrow below it passes the test.
use mathlib.Core.Path.{ap, ◌∙◌}
use native.Mathlib.Omega.{arith}
use Rattle.chart.proofs.Reading.{shaped}
use Rattle.run_walk.proofs.Tight.{tight_found, tight_none}
use Rattle.run_walk.proofs.tight_arrow.Goals as goal

pub returns-then-settled-number : goal.returns-then-settled-number
returns-then-settled-number c =
    let a = c.args in
    let inv = c.loop-i.invariant in
    let l = c.loop-i-test.true in
    let own = ap (λ w. w.start) c.arrow-a.ensures.0 ∙ inv.leaves l in (
      tight_found a.measure a.chart.bytes.now a.chart.states a.table.now a.at a.s c.loop-i.i c.arrow-a.ensures.0 own
          (_, c.weight.ensures, c.settled.ensures) c.if-settled-number.true
          (omega (arith, l, a.chart.passed.arrows)) inv.under,
      l,
    )

pub returns : goal.returns
returns c =
    let a = c.args in
    let p = c.args.chart.passed in (
      tight_none a.measure a.chart.bytes.now a.chart.states a.table.now a.at a.s
          (λ i l. c.loop-i.invariant.under i (omega (arith, c.loop-i-test.false, p.arrows))),
      omega (arith, (shaped p).some_arrows),
    )
