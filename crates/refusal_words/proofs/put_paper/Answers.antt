-- The text of the code is the papers', each on a line of its own.
use mathlib.Core.Path.{sym}
use Rattle.append.proofs.Append.{appended_text, room_text}
use Rattle.lines.specs.Line.{on_lines}
use Rattle.refusal_words.proofs.Texts.{paper_line}
use Rattle.refusal_words.proofs.put_paper.Goals as goal

pub put_line-requires : goal.put_line-requires
unfolding on_lines
put_line-requires c = room_text (sym (paper_line c.args.entry)) c.requires

pub returns : goal.returns
unfolding on_lines
returns c = appended_text (paper_line c.args.entry) c.put_line.ensures
