-- Zeros, raised by the arrows, then settled.
use Rattle.step_table.proofs.Next.{next_row}
use Rattle.step_table.proofs.next_row.Goals as goal

pub returns : goal.returns
returns c =
    let a = c.args in
    next_row a.target a.at a.p.now a.q.now c.args.chart.passed c.clear_row.ensures
    (c.relax_all.ensures a.target.measure c.requires.weights.0)
    c.settle_row.ensures
