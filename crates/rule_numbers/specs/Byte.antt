-- The byte at a place of a text.
use Rattle.std.specs.Prelude.{Bool, cond, ◌&&◌, Result, Ok, Err, List, ℕ, ◌+◌, length, get_or, eqb, ltb}

-- the byte b stands at place i
abbrev pub byte_is : List ℕ → ℕ → ℕ → Bool
byte_is t i b = ltb i (length t) && eqb (get_or t i 0) b

-- the place behind the byte b at place i; where another stands there, or none, i itself is where nothing goes on
abbrev pub behind : List ℕ → ℕ → ℕ → Result ℕ ℕ
behind t i b = cond (byte_is t i b) (Ok (i + 1)) (Err i)
