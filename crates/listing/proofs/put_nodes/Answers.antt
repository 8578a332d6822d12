-- Invariant: the lines of the first t nodes are there.
use Rattle.listing.specs.Text.{node_line}
use Rattle.listing.proofs.Joined.{joined_none, joined_more, joined_room}
use Rattle.listing.proofs.Rows.{row_inside}
use Rattle.listing.proofs.put_nodes.Goals as goal

pub loop-t-init : goal.loop-t-init
loop-t-init c = joined_none _

pub put_node-end-requires : goal.put_node-end-requires
put_node-end-requires c =
    let a = c.args in
    let here = c.loop-t in
    let below = c.loop-t-test.true in (
      row_inside here.t a.k a.n below c.requires.0,
      joined_room (node_line a.n a.marks.now) here.t a.k here.invariant below c.requires.1,
    )

pub loop-t-preserved : goal.loop-t-preserved
loop-t-preserved c = joined_more _ c.loop-t.t c.loop-t.invariant c.put_node-end.ensures
