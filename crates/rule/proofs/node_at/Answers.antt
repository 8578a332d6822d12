-- The fields stand at the node's place.
use borrow.Author.Rules.{rules}
use Rattle.rule.proofs.Node.{node_read}
use Rattle.rule.proofs.node_at.Goals as goal

pub returns : goal.returns
returns c = let a = c.args in (node_read a.rule.now a.t c.be16.ensures.0 c.be16-2.ensures.0 c.be16-3.ensures.0, record { a = search rules; b = search rules; c = search rules })
