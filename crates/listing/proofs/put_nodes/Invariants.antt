use Rattle.listing.specs.Text.{joined, node_line}
use Rattle.append.specs.Piece.{Appended}
use Rattle.listing.proofs.put_nodes.Given as goal

-- Invariant: the lines of the first t nodes are there.
abbrev pub invariant-loop-t : goal.invariant-loop-t
invariant-loop-t l = Appended l.at (joined l.t (node_line l.n l.marks)) l.end l.initial.out l.out
