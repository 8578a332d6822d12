-- The numbers fall through every state, from a sure start, if there is one.
use native.Mathlib.Omega.{arith}
use borrow.Author.Rules.{rules}
use Rattle.operands.proofs.Rows.{written_as, written_again, written_besides}
use Rattle.until_twice.proofs.Sure.{all_at_least}
use Rattle.until_twice.proofs.NoneSure.{none_at_least}
use Rattle.until_twice.proofs.all_at_least.Goals as goal

pub returns-then-sure_start : goal.returns-then-sure_start
returns-then-sure_start c =
    let p = c.requires in
    let begun = c.sure_start.ensures in
    let e = c.if-sure_start.true in
    written_again (written_besides begun.0)
    (written_again c.run.ensures.0
    (written_as c.fill_limit.ensures
    (all_at_least _ _ _ (search rules) p.c_bound.1 (omega (arith, p.c_bound.0)) (begun.1.is e)
    (c.run.ensures.1 _ (begun.1.ready e)))))

pub returns-else-sure_start : goal.returns-else-sure_start
returns-else-sure_start c =
    let p = c.requires in
    let begun = c.sure_start.ensures in
    written_as begun.0
    (none_at_least p.lent.0.passed _ _ (begun.1.nowhere c.if-sure_start.false) _ p.c_bound.1)
