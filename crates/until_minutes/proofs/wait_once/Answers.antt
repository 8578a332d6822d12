-- The first row's numbers are 2 where it is made.
use Rattle.until_minutes.proofs.FirstRow.{waited}
use Rattle.until_minutes.proofs.wait_once.Goals as goal

pub returns : goal.returns
returns c = waited _ _ _ _ _ _ c.first_row.ensures c.same-still.ensures c.fill_limit.ensures
