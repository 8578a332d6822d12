-- The four words stand at the arrow's place, which n fixes.
use borrow.Author.Rules.{rules}
use Rattle.chart.proofs.Arrow.{arrow_read}
use Rattle.chart.proofs.arrow_at.Goals as goal

pub returns : goal.returns
returns c = (arrow_read c.args.chart.now c.args.i c.requires.states c.be16.ensures.0 c.be16-2.ensures.0 c.be16-3.ensures.0 c.be16-4.ensures.0, record { start = search rules; end = search rules; fewest = search rules; most = search rules })
