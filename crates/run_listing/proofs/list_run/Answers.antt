-- Invariant: the lines before position i are there, and those from i on complete the text.
use mathlib.Core.Path.{◌≡◌}
use Prim.Native.Nat.{◌-◌, ◌/◌}
use native.Mathlib.Omega.{arith}
use lib.ListN.{length}
use Rattle.run_listing.proofs.Before.{lines_more, lines_last, step_room, end_room}
use Rattle.run_listing.proofs.list_run.Goals as goal

pub put_step-end-requires : goal.put_step-end-requires
put_step-end-requires c =
    step_room c.requires c.loop-i.invariant c.state_at.ensures.1 c.duration_at-duration.ensures.1
    c.state_at-in-loop-i.ensures.1

pub loop-i-preserved : goal.loop-i-preserved
loop-i-preserved c =
    lines_more c.requires c.loop-i.invariant c.state_at.ensures c.duration_at-duration.ensures
    c.state_at-in-loop-i.ensures (omega arith) c.put_step-end.ensures

pub put_end-requires : goal.put_end-requires
put_end-requires c = end_room c.requires c.loop-i.invariant c.ranges.c.fits c.state_at-2.ensures.1

pub returns : goal.returns
returns c =
    let e : length c.args.run.now / 6 - 1 ≡ c.loop-i.i = omega arith in
    lines_last c.requires c.loop-i.invariant c.ranges.c.fits (rw e at c.state_at-2.ensures) (omega arith) c.put_end.ensures
