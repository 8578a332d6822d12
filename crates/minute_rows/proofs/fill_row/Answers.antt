-- The row is begun, the arrows that take a minute are followed once, and the others until nothing is new.
use mathlib.Core.Path.{◌∙◌}
use Rattle.minute_rows.proofs.Sweeping.{words_still}
use Rattle.minute_rows.proofs.Collecting.{front_words, back_words}
use Rattle.minute_rows.proofs.Row.{row_filled}
use Rattle.minute_rows.proofs.fill_row.Goals as goal

pub sweep-requires : goal.sweep-requires
sweep-requires c = words_still c.begin.ensures.size (back_words c.requires)

pub rounds-requires : goal.rounds-requires
rounds-requires c = words_still (c.sweep.ensures.kept.size ∙ c.begin.ensures.size) (front_words c.requires)

pub returns : goal.returns
returns c = row_filled c.requires c.met_in-met.ensures c.begin.ensures c.sweep.ensures c.rounds.ensures
