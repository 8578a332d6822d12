-- Nothing changes, or the number is set.
use mathlib.Core.Path.{refl}
use native.Mathlib.Omega.{arith}
use Rattle.chart.proofs.Reading.{shaped}
use Rattle.visits.proofs.Went.{went_none}
use Rattle.visits.proofs.Tried.{visit_stays, visit_moves}
use Rattle.visits.proofs.raise.Goals as goal

pub returns-then-v-tested : goal.returns-then-v-tested
returns-then-v-tested c =
    let a = c.args in
    let w = c.arrow-a.ensures in
    λ go r. (
      went_none r,
      visit_stays c.requires.0.fits a.chart.bytes.now a.numbers.now a.i w.0
          (omega (arith, w.1.start, c.requires.0.size)) c.value.ensures c.offered-v.ensures r r refl
          (omega (arith, c.tested.ensures)),
    )

pub hinted-requires : goal.hinted-requires
hinted-requires c =
    (c.reached.ensures.low, omega (arith, (shaped c.args.chart.passed).few_arrows, c.requires.1))

pub returns : goal.returns
returns c =
    let a = c.args in
    let w = c.arrow-a.ensures in
    λ go r. visit_moves c.requires.0.fits a.chart.bytes.now a.numbers.now a.i w.0
    (omega (arith, w.1.start, c.requires.0.size)) c.value.ensures c.offered-v.ensures r
    (omega (arith, c.tested.ensures, c.if-v-tested.false)) c.hinted.result c.reached.ensures c.hinted.ensures
    c.requires.1
