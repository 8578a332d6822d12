-- The first line, then the lines of the nodes.
use mathlib.Core.List.{List, ◌++◌}
use Prim.Native.Nat.{ℕ, ◌+◌, ◌*◌, ◌≤◌}
use lib.ListN.{length}
use Rattle.listing.specs.Text.{states_word, nodes_word, newline, joined, node_line, two_numbers, listing}
use Rattle.append.specs.Piece.{Room}
use Rattle.append.proofs.Append.{appended_both, room_first, room_second, at_front}
use Rattle.listing.proofs.Sizes.{listing_room}
use Rattle.listing.proofs.list.Goals as goal

-- there is room for the whole listing
module _
    (n k : ℕ) (marks : List ℕ) {out : List ℕ}
    (h : (n ≤ 256) × (k ≤ 64) × (k * n ≤ length marks) × (20 + 64 * 260 ≤ length out)) where
  whole : Room 0 (two_numbers states_word n nodes_word k ++ newline ++ joined k (node_line n marks)) out
  unfolding listing
  whole = listing_room n k marks out h.0 h.1 h.3

  first_line : Room 0 (two_numbers states_word n nodes_word k ++ newline) out
  first_line = room_first _ _ whole

pub put_numbers-counted-requires : goal.put_numbers-counted-requires
put_numbers-counted-requires c = room_first _ newline (first_line c.args.n c.args.k c.args.marks.now c.requires)

pub put-end-requires : goal.put-end-requires
put-end-requires c =
    room_second _ c.put_numbers-counted.ensures (first_line c.args.n c.args.k c.args.marks.now c.requires)

pub put_nodes-requires : goal.put_nodes-requires
put_nodes-requires c = (
  c.requires.2,
  room_second _ (appended_both c.put_numbers-counted.ensures c.put-end.ensures)
      (whole c.args.n c.args.k c.args.marks.now c.requires),
)

pub returns : goal.returns
unfolding listing
returns c =
    at_front (whole c.args.n c.args.k c.args.marks.now c.requires)
    (appended_both (appended_both c.put_numbers-counted.ensures c.put-end.ensures) c.put_nodes.ensures)
