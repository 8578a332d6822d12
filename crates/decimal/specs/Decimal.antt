-- A number in decimal, as a list of bytes.
use Rattle.std.specs.Prelude.{cond, List, [], ◌∷◌, ◌++◌, ℕ, zero, suc, ◌+◌, ◌/◌, ◌%◌, ltb}

-- the digits of x in base ten, the last standing for x % 10, of a number of at most so many digits
unfoldable pub digits_by : ℕ → ℕ → List ℕ
digits_by zero x = []
digits_by (suc most) x = cond (ltb x 10) [] (digits_by most (x / 10)) ++ (48 + x % 10) ∷ []

-- with no leading zeros: x has at most x + 1 digits
unfoldable pub decimal : ℕ → List ℕ
decimal x = digits_by (suc x) x
