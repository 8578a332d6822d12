-- Where good holds everywhere, the numbers are cleared as they are.
use Rattle.initial.proofs.Cleared.{sured_all}
use Rattle.initial.proofs.clear_unsure.Goals as goal

pub returns-then-all_are : goal.returns-then-all_are
returns-then-all_are c =
    let p = c.requires in
    sured_all c.args.good.now c.args.chart.passed p.0 p.1 (c.all_are.ensures c.if-all_are.true)
