-- The row is begun, every arrow is tried in all of its minutes, and those that can take none until nothing is lowered.
use mathlib.Core.Path.{◌∙◌}
use native.Mathlib.Omega.{arith}
use Rattle.exact_table.proofs.Sweeping.{words_still}
use Rattle.exact_table.proofs.Collecting.{front_words, back_words}
use Rattle.exact_table.proofs.Row.{row_left}
use Rattle.exact_table.proofs.fill_row.Goals as goal

pub sweep-requires : goal.sweep-requires
sweep-requires c = words_still c.begin.ensures.size (back_words c.requires _ (omega arith))

pub sweep-requires-2 : goal.sweep-requires-2
sweep-requires-2 c =
    words_still (c.sweep.ensures.kept.size ∙ c.begin.ensures.size) (front_words c.requires _ (omega arith))

pub rounds-requires : goal.rounds-requires
rounds-requires c =
    words_still (c.sweep-2.ensures.kept.size ∙ c.sweep.ensures.kept.size ∙ c.begin.ensures.size)
    (front_words c.requires 0 (omega arith))

pub returns : goal.returns
returns c = row_left c.requires c.begin.ensures c.sweep.ensures c.sweep-2.ensures c.rounds.ensures
