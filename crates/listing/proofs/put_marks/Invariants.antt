use Rattle.listing.specs.Text.{mark_line}
use Rattle.append.specs.Piece.{Appended}
use Rattle.listing.proofs.put_marks.Given as goal

-- Invariant: the marks before the index are there.
abbrev pub invariant-loop-byte : goal.invariant-loop-byte
invariant-loop-byte l = Appended l.at (mark_line l.byte-index l.marks l.start) l.end l.initial.out l.out
