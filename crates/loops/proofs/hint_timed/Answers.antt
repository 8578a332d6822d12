-- Invariant: the arrows before i are noted.
use mathlib.Core.Path.{◌≡◌, sym, subst}
use native.Mathlib.Omega.{arith}
use Rattle.chart.specs.Bytes.{arrow_count}
use Rattle.chart.proofs.Reading.{shaped}
use Rattle.loops.proofs.LeftInTime.{Noted, noted_still, noted_more, noted_timed}
use Rattle.loops.proofs.hint_timed.Goals.{then-a-ne0, else-a-ne0}
use Rattle.loops.proofs.hint_timed.Goals as goal

pub hinted-requires : goal.hinted-requires
hinted-requires c = (omega arith, omega (arith, c.loop-i-test.true, (shaped c.args.chart.passed).few_arrows))

pub loop-i-preserved : goal.loop-i-preserved
loop-i-preserved c =
    let inv = c.loop-i.invariant in
    let ns = c.loop-i.numbers in
    let chart = c.args.chart.bytes.now in
    let a = c.arrow-a.ensures in
    let words = a.0 in (
      omega (arith, inv.0),
      elim c.if-a-ne0.branch [
        | then-a-ne0 w ↦
            rw (w.numbers-is, words)
            (noted_more chart ns inv.1 (omega (arith, c.args.chart.passed.arrows, c.loop-i-test.true))
            (rw (sym words) (omega (arith, a.1.start, inv.0))) (rw (sym words) w.if-a-ne0.true)
            (λ e. omega (arith, w.hinted.ensures, e)))
        | else-a-ne0 w ↦ rw w.numbers-is (noted_still chart ns inv.1 (rw (sym words) w.if-a-ne0.false))
      ],
    )

pub returns : goal.returns
returns c =
    let all : c.loop-i.i ≡ arrow_count c.args.chart.bytes.now =
    omega (arith, c.loop-i.auto.i-end, c.loop-i-test.false, c.args.chart.passed.arrows) in
    noted_timed _ _ (subst (λ i. Noted c.args.chart.bytes.now i c.loop-i.numbers) all c.loop-i.invariant.1)
