-- What every function that appends a piece to a lent buffer promises.
use Rattle.std.specs.Prelude.{◌≡◌, List, ◌++◌, ℕ, ◌+◌, ◌≤◌, length, drop}
use Rattle.std.proofs.lemmas.List.Edits.{sets}

-- there is room for the piece from `at` on
pub record Room (at : ℕ) (piece out : List ℕ) : Type 0 where
  pub fits : at + length piece ≤ length out

-- the piece stands from `at` on, up to r, and all other bytes are as they were
pub record Appended (at : ℕ) (piece : List ℕ) (r : ℕ) (old new : List ℕ) : Type 0 where
  pub end : r ≡ at + length piece
  pub bytes : new ≡ sets old at piece

-- the first r bytes are the piece, the others as they were
pub record AtFront (piece : List ℕ) (r : ℕ) (old new : List ℕ) : Type 0 where
  pub end : r ≡ length piece
  pub bytes : new ≡ piece ++ drop (length piece) old
