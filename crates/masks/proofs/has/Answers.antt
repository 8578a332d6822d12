-- The bit that is tested is the one that the set is told by.
use borrow.Author.Rules.{rules}
use Rattle.masks.specs.Member.{member}
use Rattle.masks.proofs.has.Goals as goal

-- The bit that is tested is the one that the set is told by.
pub returns : goal.returns
unfolding member
returns c = search rules
