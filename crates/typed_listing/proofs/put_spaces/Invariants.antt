use Rattle.append.specs.Piece.{Appended}
use Rattle.typed_listing.specs.Refused.{spaces}
use Rattle.typed_listing.proofs.put_spaces.Given as goal

-- Invariant: as many spaces are there as were counted.
abbrev pub invariant-loop : goal.invariant-loop
invariant-loop l = Appended l.at (spaces l.counter) l.end l.initial.out l.out
