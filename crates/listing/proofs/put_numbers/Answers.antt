-- The four parts one after another.
use Rattle.listing.specs.Text.{two_numbers}
use Rattle.decimal.specs.Decimal.{decimal}
use Rattle.append.proofs.Four.{rooms, appended_four}
use Rattle.listing.proofs.put_numbers.Goals as goal

pub put_word-end-requires : goal.put_word-end-requires
unfolding two_numbers
put_word-end-requires c =
    (rooms c.args.first.now (decimal c.args.x) c.args.second.now (decimal c.args.y) c.requires).one

pub put_number-end-requires : goal.put_number-end-requires
unfolding two_numbers
put_number-end-requires c =
    (rooms c.args.first.now (decimal c.args.x) c.args.second.now (decimal c.args.y) c.requires).two
    c.put_word-end.ensures

pub put_word-end-requires-2 : goal.put_word-end-requires-2
unfolding two_numbers
put_word-end-requires-2 c =
    (rooms c.args.first.now (decimal c.args.x) c.args.second.now (decimal c.args.y) c.requires).three
    c.put_word-end.ensures c.put_number-end.ensures

pub put_number-requires : goal.put_number-requires
unfolding two_numbers
put_number-requires c =
    (rooms c.args.first.now (decimal c.args.x) c.args.second.now (decimal c.args.y) c.requires).four
    c.put_word-end.ensures c.put_number-end.ensures c.put_word-end-2.ensures

pub returns : goal.returns
unfolding two_numbers
returns c =
    appended_four c.put_word-end.ensures c.put_number-end.ensures c.put_word-end-2.ensures c.put_number.ensures
