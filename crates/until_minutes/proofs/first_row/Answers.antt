-- What is filled by the rows that are lent is filled by the marks.
use Rattle.until_minutes.specs.Minutes.{plain_asked}
use Rattle.until_minutes.proofs.Alike.{filled_same}
use Rattle.until_minutes.proofs.Parts.{task_parts, first_ready}
use Rattle.until_minutes.proofs.first_row.Goals as goal

pub fill_row-requires : goal.fill_row-requires
fill_row-requires c = first_ready _ c.requires

pub returns : goal.returns
returns c =
    let a = c.args in
    filled_same c.requires.lent.passed (task_parts a.chart.states a.node a.marks.now (plain_asked a.all) a.t)
    c.fill_row.ensures
