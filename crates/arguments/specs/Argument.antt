-- A number among a program's arguments, in decimal.
use Rattle.std.specs.Prelude.{cond, List, ℕ, min, length, eqb, Option, Some, None}
use Rattle.base.specs.Every.{every}
use Rattle.decimal.specs.Value.{is_digit, read_as}

-- no node and no state has this number: it stands for every larger one too
abbrev pub out_of_range : ℕ
out_of_range = 65536

-- digits after those that stand for `high`; none of another text
unfoldable pub number_from : ℕ → List ℕ → Option ℕ
number_from high text = cond (every is_digit text) (Some (min (read_as high text) out_of_range)) None

-- digits, one at least; none of another text
unfoldable pub argument_of : List ℕ → Option ℕ
argument_of text = cond (eqb (length text) 0) None (number_from 0 text)
