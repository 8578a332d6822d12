-- "Numbers are big-endian" (01, "Bytes of a chart, a rule and a map").
use Rattle.std.specs.Prelude.{List, ℕ, ◌+◌, ◌*◌, get_or}

-- the number of two bytes from i on
abbrev pub word : List ℕ → ℕ → ℕ
word s i = get_or s i 0 * 256 + get_or s (i + 1) 0

-- the number of four bytes from i on
abbrev pub long : List ℕ → ℕ → ℕ
long s i = word s i * 65536 + word s (i + 2)
