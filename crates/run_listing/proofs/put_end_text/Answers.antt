-- The tests say which of the three texts it is.
use mathlib.Core.Path.{sym}
use Rattle.append.proofs.Append.{appended_text, room_text}
use Rattle.run_listing.proofs.EndText.{above_text, neither_text, met_text}
use Rattle.run_listing.proofs.put_end_text.Goals as goal

pub put_after-requires : goal.put_after-requires
put_after-requires c = room_text (above_text _ _ c.if-all.true c.if-c-moment.true) c.requires

pub returns-then-c-moment : goal.returns-then-c-moment
returns-then-c-moment c = appended_text (sym (above_text _ _ c.if-all.true c.if-c-moment.true)) c.put_after.ensures

pub put_word-requires : goal.put_word-requires
put_word-requires c = room_text (neither_text _ _ c.if-all.true c.if-c-moment.false) c.requires

pub returns-then-all : goal.returns-then-all
returns-then-all c = appended_text (sym (neither_text _ _ c.if-all.true c.if-c-moment.false)) c.put_word.ensures

pub put_after-requires-2 : goal.put_after-requires-2
put_after-requires-2 c = room_text (met_text _ _ c.if-all.false) c.requires

pub returns : goal.returns
returns c = appended_text (sym (met_text _ _ c.if-all.false)) c.put_after-2.ensures
