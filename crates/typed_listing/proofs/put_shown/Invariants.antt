use Rattle.append.specs.Piece.{Appended}
use Rattle.listing.specs.Text.{joined}
use Rattle.typed_listing.specs.Refused.{shown_at}
use Rattle.typed_listing.proofs.put_shown.Given as goal

-- Invariant: the bytes of the text before the index are shown.
abbrev pub invariant-loop-byte : goal.invariant-loop-byte
invariant-loop-byte l = Appended l.at (joined l.byte-index (shown_at l.text)) l.end l.initial.out l.out
