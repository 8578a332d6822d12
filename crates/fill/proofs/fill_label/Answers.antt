-- The row is as the closure says.
use borrow.Author.Rules.{rules}
use Rattle.fill.proofs.Written.{written_by}
use Rattle.fill.proofs.fill_label.Goals as goal

pub returns : goal.returns
returns c = written_by _ c.write_row.ensures (λ s b l h. search rules)
