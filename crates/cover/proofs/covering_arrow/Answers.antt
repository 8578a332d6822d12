-- An arrow that one of the two searches finds, or none at all.
use native.Mathlib.Omega.{arith}
use borrow.Author.Rules.{rules}
use Rattle.cover.proofs.Searched.{covered_by}
use Rattle.cover.proofs.covering_arrow.Goals as goal

pub returns : goal.returns
returns c = covered_by _ _ c.requires.0.arrows _ _ (omega arith) c.cover_between-after.ensures (search rules)
