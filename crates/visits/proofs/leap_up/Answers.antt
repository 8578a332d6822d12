-- Nothing changes, or the number is set to the cap.
use Rattle.std.proofs.Common.{◌≡◌, true, arith, rules}
use Rattle.visits.proofs.Round.{leap_moves}
use Rattle.visits.proofs.leap_up.Goals as goal

pub returns : goal.returns
returns c =
    let t = c.tested-t.ensures in
    let a = c.args in
    let found : c.circles.result ≡ true = search rules in
    leap_moves a.climb c.requires.0.fits a.chart.bytes.now a.numbers.now a.chart.arrows
    (omega (arith, c.requires.0.size))
    (λ e. c.if-t-eq0.false (omega (arith, t, e))) (omega (arith, t)) c.retested.result c.retested.ensures
    (λ go opens. c.circles.ensures go opens found)
