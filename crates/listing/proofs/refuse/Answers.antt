-- Two numbers, a space, the entry and the end of the line, for which there is room.
use mathlib.Core.List.{List, ◌++◌}
use Prim.Native.Nat.{ℕ, ◌≤◌}
use lib.ListN.{length}
use native.Mathlib.Omega.{arith}
use borrow.Author.Rules.{rules}
use Rattle.listing.specs.Text.{refused_word, at_word, space, newline, two_numbers, refused_line}
use Rattle.decimal.specs.Decimal.{decimal}
use Rattle.outcome.specs.declared.Outcome.{Outcome}
use Rattle.append.specs.Piece.{Room}
use Rattle.append.proofs.Append.{at_front}
use Rattle.append.proofs.Four.{Rooms, rooms, appended_four}
use Rattle.listing.proofs.Sizes.{Ranged, refused_size}
use Rattle.listing.proofs.refuse.Goals as goal

abbrev placed : Outcome → List ℕ
placed o = two_numbers refused_word o.number at_word o.place

-- the parts, and room for each beginning of them
module _ (o : Outcome) {out : List ℕ} (ranged : Ranged o) (long : 44 ≤ length out) where
  room : Room 0 (placed o ++ space ++ decimal o.entry ++ newline) out
  unfolding refused_line
  room = record { fits = omega (arith, refused_size o ranged, long) }

  parts : Rooms 0 (placed o) space (decimal o.entry) newline out
  parts = rooms (placed o) space (decimal o.entry) newline room

pub put_numbers-placed-requires : goal.put_numbers-placed-requires
put_numbers-placed-requires c =
    (parts c.args.outcome (search rules) c.requires).one

pub put-spaced-requires : goal.put-spaced-requires
put-spaced-requires c =
    (parts c.args.outcome (search rules) c.requires).two c.put_numbers-placed.ensures

pub put_number-entered-requires : goal.put_number-entered-requires
put_number-entered-requires c =
    (parts c.args.outcome (search rules) c.requires).three
    c.put_numbers-placed.ensures c.put-spaced.ensures

pub put-requires : goal.put-requires
put-requires c =
    (parts c.args.outcome (search rules) c.requires).four
    c.put_numbers-placed.ensures c.put-spaced.ensures c.put_number-entered.ensures

pub returns : goal.returns
unfolding refused_line
returns c =
    at_front (room c.args.outcome (search rules) c.requires)
    (appended_four c.put_numbers-placed.ensures c.put-spaced.ensures c.put_number-entered.ensures c.put.ensures)
