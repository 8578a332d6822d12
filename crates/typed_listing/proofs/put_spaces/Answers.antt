-- Invariant: as many spaces are there as were counted.
use Rattle.listing.proofs.Joined.{joined_none, joined_more, joined_room}
use Rattle.typed_listing.specs.Refused.{spaces}
use Rattle.typed_listing.proofs.put_spaces.Goals as goal

pub loop-init : goal.loop-init
unfolding spaces
loop-init c = joined_none _

pub put-end-requires : goal.put-end-requires
unfolding spaces
put-end-requires c = joined_room _ c.loop.counter c.args.count c.loop.invariant c.loop-test.true c.requires

pub loop-preserved : goal.loop-preserved
unfolding spaces
loop-preserved c = joined_more _ c.loop.counter c.loop.invariant c.put-end.ensures
