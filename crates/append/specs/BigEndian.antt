-- "Numbers are big-endian" (01, "Bytes of a chart, a rule and a map"): the bytes that are written of one.
use Rattle.std.specs.Prelude.{List, [], ◌∷◌, ◌++◌, ℕ, ◌/◌, ◌%◌}

-- the two bytes of a number below 65,536
abbrev pub word_bytes : ℕ → List ℕ
word_bytes x = x / 256 ∷ x % 256 ∷ []

-- the four bytes of a number below 65,536 × 65,536
abbrev pub long_bytes : ℕ → List ℕ
long_bytes x = word_bytes (x / 65536) ++ word_bytes (x % 65536)
