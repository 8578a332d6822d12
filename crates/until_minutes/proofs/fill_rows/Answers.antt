-- What is filled by the rows that are lent is filled by the marks.
use Rattle.until_minutes.proofs.Alike.{filled_same}
use Rattle.until_minutes.proofs.Parts.{task_parts}
use Rattle.until_minutes.proofs.fill_rows.Goals as goal

pub returns : goal.returns
returns c =
    let a = c.args in
    filled_same c.requires.0.passed (task_parts a.chart.states a.node a.marks.now a.asked a.t) c.fill_rows.ensures
