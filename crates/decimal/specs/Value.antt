-- What digits stand for.
use Rattle.std.specs.Prelude.{Bool, ◌&&◌, List, [], ◌∷◌, ℕ, ◌+◌, ◌-◌, ◌*◌, leb}

-- from "0" to "9"
abbrev pub is_digit : ℕ → Bool
is_digit byte = leb 48 byte && leb byte 57

-- the number that digits stand for, where those before them stand for `high`
abbrev pub read_as : ℕ → List ℕ → ℕ
read_as high [] = high
read_as high (d ∷ s) = read_as (high * 10 + (d - 48)) s
