-- Row 19, and then, from the last node down, all nodes.
use mathlib.Core.Path.{refl}
use Rattle.judge.proofs.Judgeable.{some_nodes, last_asks, all_settled}
use borrow.Author.Rules.{rules}
use Rattle.judge.proofs.judged.Goals as goal

pub overflow_sub-last : goal.overflow_sub-last
overflow_sub-last c = some_nodes c.requires

pub settle-requires : goal.settle-requires
settle-requires c = last_asks c.requires c.in_ok-loop_row.ensures refl (search rules)

pub returns : goal.returns
returns c = all_settled c.requires c.in_ok-loop_row.ensures refl c.settle.ensures
