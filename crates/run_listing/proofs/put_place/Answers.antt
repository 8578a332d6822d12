-- The state, then the moment.
use Rattle.append.proofs.Append.{appended_both, room_first, room_second}
use Rattle.run_listing.specs.RunText.{place_text}
use Rattle.run_listing.proofs.put_place.Goals as goal

pub put_number-end-requires : goal.put_number-end-requires
unfolding place_text
put_number-end-requires c = room_first _ _ c.requires

pub put_after-requires : goal.put_after-requires
unfolding place_text
put_after-requires c = room_second _ c.put_number-end.ensures c.requires

pub returns : goal.returns
unfolding place_text
returns c = appended_both c.put_number-end.ensures c.put_after.ensures
