-- A shown run as bytes. The quoted words are of 02, paper 1.
use Rattle.std.specs.Prelude.{List, [], ◌∷◌, ◌++◌, ℕ}
use Rattle.append.specs.BigEndian.{word_bytes, long_bytes}
use Rattle.shown.specs.Shown.{Position}

-- "per position the state (2 bytes) and duration (4)"
abbrev pub position_bytes : Position → List ℕ
position_bytes x = word_bytes x.state ++ long_bytes x.duration

unfoldable pub run_bytes : List Position → List ℕ
run_bytes [] = []
run_bytes (x ∷ rest) = position_bytes x ++ run_bytes rest
