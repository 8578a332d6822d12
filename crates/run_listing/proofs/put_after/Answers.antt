-- The word, then the number.
use Rattle.append.proofs.Append.{appended_both, room_first, room_second}
use Rattle.run_listing.specs.RunText.{after}
use Rattle.run_listing.proofs.put_after.Goals as goal

pub put_word-end-requires : goal.put_word-end-requires
unfolding after
put_word-end-requires c = room_first _ _ c.requires

pub put_number-requires : goal.put_number-requires
unfolding after
put_number-requires c = room_second _ c.put_word-end.ensures c.requires

pub returns : goal.returns
unfolding after
returns c = appended_both c.put_word-end.ensures c.put_number.ensures
