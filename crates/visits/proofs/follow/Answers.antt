-- No hint, or its arrow is tried.
use Rattle.visits.proofs.Went.{went_none}
use Rattle.visits.proofs.follow.Goals as goal

pub returns-then-chart-i : goal.returns-then-chart-i
returns-then-chart-i c = λ go r. went_none r
