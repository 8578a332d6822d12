-- The arrows that are collected by the rows that are lent are those by the marks.
use Rattle.until_minutes.proofs.Alike.{collected_same}
use Rattle.until_minutes.proofs.Parts.{open_parts}
use Rattle.until_minutes.proofs.collect_open.Goals as goal

pub returns : goal.returns
returns c =
    let a = c.args in
    collected_same c.requires.passed (open_parts a.chart.states a.node a.marks.now) c.collect.ensures
