-- The rows are filled, and the last of them becomes row t.
use Rattle.operands.proofs.Rows.{written_as}
use Rattle.until_minutes.specs.Minutes.{task_by}
use Rattle.until_minutes.proofs.Last.{last_says}
use Rattle.until_minutes.proofs.last_row.Goals as goal

pub returns : goal.returns
returns c =
    let a = c.args in
    let p = c.requires in
    written_as c.fill_limit.ensures
    (last_says a.asked.all {w = task_by a.asked a.chart.states a.t a.node a.marks.now} p.1 p.2 c.fill_rows.ensures)
