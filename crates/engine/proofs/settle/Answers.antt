-- Nothing to do, or numbers rise.
use Rattle.engine.proofs.OnTheWay.{way_none, way_rest}
use Rattle.engine.proofs.settle.Goals as goal

pub returns-then-at_rest : goal.returns-then-at_rest
returns-then-at_rest c go r =
    let p = c.requires.given in
    let passed = c.args.chart.passed in
    way_rest _ passed go _ p.size _ c.if-at_rest.true p.fits p.size (way_none _ passed go _ p.size r) c.at_rest.ensures
