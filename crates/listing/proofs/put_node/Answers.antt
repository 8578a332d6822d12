-- The four parts of the line one after another.
use Rattle.listing.specs.Text.{space, newline, mark_line, node_line}
use Rattle.decimal.specs.Decimal.{decimal}
use Rattle.append.proofs.Append.{appended_both, room_second, room_parts}
use Rattle.listing.proofs.put_node.Goals as goal

pub put_number-numbered-requires : goal.put_number-numbered-requires
unfolding node_line
put_number-numbered-requires c =
    let a = c.args in
    (room_parts (decimal a.t) space (mark_line a.n a.marks.now _) newline c.requires.1).0

pub put-spaced-requires : goal.put-spaced-requires
unfolding node_line
put-spaced-requires c =
    let a = c.args in
    let rooms = room_parts (decimal a.t) space (mark_line a.n a.marks.now _) newline c.requires.1 in
    room_second space c.put_number-numbered.ensures rooms.1

pub put_marks-marked-requires : goal.put_marks-marked-requires
unfolding node_line
put_marks-marked-requires c =
    let a = c.args in
    let rooms = room_parts (decimal a.t) space (mark_line a.n a.marks.now _) newline c.requires.1 in
    let done = appended_both c.put_number-numbered.ensures c.put-spaced.ensures in
    (c.requires.0, room_second _ done rooms.2)

pub put-requires : goal.put-requires
unfolding node_line
put-requires c =
    let done = appended_both c.put_number-numbered.ensures c.put-spaced.ensures in
    room_second newline (appended_both done c.put_marks-marked.ensures) c.requires.1

pub returns : goal.returns
unfolding node_line
returns c =
    let done = appended_both c.put_number-numbered.ensures c.put-spaced.ensures in
    appended_both (appended_both done c.put_marks-marked.ensures) c.put.ensures
