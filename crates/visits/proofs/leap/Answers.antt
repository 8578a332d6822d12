-- The two ways.
use Rattle.visits.proofs.Went.{went_none}
use Rattle.visits.proofs.leap.Goals as goal

pub returns-in-Lower : goal.returns-in-Lower
returns-in-Lower c go r = went_none r
