-- The spaces, then the caret and the end of its line.
use Rattle.append.proofs.Append.{appended_both, room_first, room_second}
use Rattle.typed_listing.specs.Refused.{caret_line}
use Rattle.typed_listing.proofs.put_caret.Goals as goal

pub put_spaces-spaced-requires : goal.put_spaces-spaced-requires
unfolding caret_line
put_spaces-spaced-requires c = room_first _ _ c.requires

pub put_word-requires : goal.put_word-requires
unfolding caret_line
put_word-requires c = room_second _ c.put_spaces-spaced.ensures c.requires

pub returns : goal.returns
unfolding caret_line
returns c = appended_both c.put_spaces-spaced.ensures c.put_word.ensures
