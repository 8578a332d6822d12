-- The three parts of the line one after another.
use Rattle.listing.specs.Text.{newline}
use Rattle.append.proofs.Append.{appended_both, room_first, room_second}
use Rattle.run_listing.specs.RunText.{end_line}
use Rattle.run_listing.proofs.put_end.Goals as goal

pub put_place-placed-requires : goal.put_place-placed-requires
unfolding end_line
put_place-placed-requires c = room_first _ _ (room_first _ newline c.requires)

pub put_end_text-told-requires : goal.put_end_text-told-requires
unfolding end_line
put_end_text-told-requires c = room_second _ c.put_place-placed.ensures (room_first _ newline c.requires)

pub put-requires : goal.put-requires
unfolding end_line
put-requires c = room_second newline (appended_both c.put_place-placed.ensures c.put_end_text-told.ensures) c.requires

pub returns : goal.returns
unfolding end_line
returns c =
    let done = appended_both c.put_place-placed.ensures c.put_end_text-told.ensures in
    appended_both done c.put.ensures
