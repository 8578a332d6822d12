-- The four parts one after another.
use native.Mathlib.Omega.{arith}
use Rattle.refusal_words.specs.Bytes.{bytes}
use Rattle.telling.specs.Told.{told_text}
use Rattle.append.proofs.Four.{rooms, appended_four}
use Rattle.telling.proofs.put_told.Goals as goal

pub put_text-end-requires : goal.put_text-end-requires
unfolding told_text
put_text-end-requires c = (omega arith, ((rooms _ (bytes " (") _ _ c.requires)).one)

pub put_word-end-requires : goal.put_word-end-requires
unfolding told_text
put_word-end-requires c = ((rooms _ (bytes " (") _ _ c.requires)).two c.put_text-end.ensures

pub put_paper-end-requires : goal.put_paper-end-requires
unfolding told_text
put_paper-end-requires c = ((rooms _ (bytes " (") _ _ c.requires)).three c.put_text-end.ensures c.put_word-end.ensures

pub put_counted-requires : goal.put_counted-requires
unfolding told_text
put_counted-requires c = ((rooms _ (bytes " (") _ _ c.requires)).four c.put_text-end.ensures c.put_word-end.ensures c.put_paper-end.ensures

pub returns : goal.returns
unfolding told_text
returns c = appended_four c.put_text-end.ensures c.put_word-end.ensures c.put_paper-end.ensures c.put_counted.ensures
