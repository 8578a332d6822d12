-- The four parts of the line one after another.
use Rattle.listing.specs.Text.{newline}
use Rattle.append.proofs.Append.{appended_both, room_first, room_second}
use Rattle.run_listing.specs.RunText.{step_line}
use Rattle.run_listing.proofs.put_step.Goals as goal

pub put_place-placed-requires : goal.put_place-placed-requires
unfolding step_line
put_place-placed-requires c = room_first _ _ (room_first _ _ (room_first _ newline c.requires))

pub put_after-timed-requires : goal.put_after-timed-requires
unfolding step_line
put_after-timed-requires c =
    room_second _ c.put_place-placed.ensures (room_first _ _ (room_first _ newline c.requires))

pub put_after-led-requires : goal.put_after-led-requires
unfolding step_line
put_after-led-requires c =
    room_second _ (appended_both c.put_place-placed.ensures c.put_after-timed.ensures)
    (room_first _ newline c.requires)

pub put-requires : goal.put-requires
unfolding step_line
put-requires c =
    let done = appended_both c.put_place-placed.ensures c.put_after-timed.ensures in
    room_second newline (appended_both done c.put_after-led.ensures) c.requires

pub returns : goal.returns
unfolding step_line
returns c =
    let done = appended_both c.put_place-placed.ensures c.put_after-timed.ensures in
    appended_both (appended_both done c.put_after-led.ensures) c.put.ensures
