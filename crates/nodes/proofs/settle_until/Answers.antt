-- By minutes, or by the first engine on the first n numbers.
use mathlib.Core.Path.{sym, ◌∙◌}
use Rattle.operands.proofs.Rows.{written_as}
use Rattle.nodes.proofs.Counted.{by_minutes_met}
use Rattle.nodes.proofs.settle_until.Goals as goal

pub returns-then-by_minutes : goal.returns-then-by_minutes
returns-then-by_minutes c =
    let p = c.requires in
    written_as c.until.ensures
    (by_minutes_met p.0.passed p.0.accepted c.args.node p.1 (sym c.by_minutes.ensures ∙ c.if-by_minutes.true) _ _)
