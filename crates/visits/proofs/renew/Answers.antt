-- The own hint is tried, and then the arrow unless it offered no more.
use Rattle.visits.proofs.Moved.{held_from}
use Rattle.visits.proofs.Went.{went_below, went_both}
use Rattle.visits.proofs.renew.Goals as goal

pub returns : goal.returns
returns c go r =
    let first = c.follow-own.ensures go r in
    let second = c.raise-new.ensures go first.ready in
    (went_both first second.0, held_from (went_below first) second.1)
