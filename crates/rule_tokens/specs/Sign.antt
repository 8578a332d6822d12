-- The sign between two operands, with its spaces.
use Rattle.std.specs.Prelude.{cond, Option, Some, None, Result, Ok, Err, List, ℕ, ◌+◌}
use Rattle.tctl.specs.Kind.{Runs}
use Rattle.rule_grammar.specs.Machine.{Sign, less, more, equal, Join, conj, disj, until, Opening, pair, timed, most_of}
use Rattle.rule_bytes.specs.JoinNode.{number_of}
use Rattle.rule_numbers.specs.declared.Number.{Number}
use Rattle.rule_tokens.specs.declared.Token.{Token}
use Rattle.rule_tokens.specs.Tags.{join_tag}
use Rattle.rule_numbers.specs.Byte.{byte_is}
use Rattle.rule_numbers.specs.Number.{number_from}
use Rattle.rule_tokens.specs.Start.{token}

-- what joins the operands and where the second one starts; where there is no sign, the first byte that none goes on from
pub data Signed : Type 0 where
  joins : Join → ℕ → Signed
  unsigned : ℕ → Signed

-- the space behind the sign
abbrev pub space_from : Join → List ℕ → ℕ → Signed
space_from j t i = cond (byte_is t i 32) (joins j (i + 1)) (unsigned i)

-- behind "U<=", "U>=" or "U=="
abbrev pub limit_of : Runs → Sign → List ℕ → ℕ → Option Number → Signed
limit_of q s t i None = unsigned i
limit_of q s t i (Some n) = space_from (until q s n.value) t n.end

abbrev pub limit_from : Runs → Sign → List ℕ → ℕ → Signed
limit_from q s t i = limit_of q s t i (number_from (most_of s) t i)

-- behind "U<", "U>" or "U="
abbrev pub equal_from : Runs → Sign → List ℕ → ℕ → Signed
equal_from q s t i = cond (byte_is t i 61) (limit_from q s t (i + 1)) (unsigned i)

-- behind "U"
abbrev pub bound_from : Runs → List ℕ → ℕ → Signed
bound_from q t i =
    cond (byte_is t i 60) (equal_from q less t (i + 1)) (
    cond (byte_is t i 62) (equal_from q more t (i + 1)) (
    cond (byte_is t i 61) (equal_from q equal t (i + 1))
    (unsigned i)))

-- behind the space before the sign
abbrev pub sign_from : Opening → List ℕ → ℕ → Signed
sign_from pair t i =
    cond (byte_is t i 38) (space_from conj t (i + 1)) (
    cond (byte_is t i 124) (space_from disj t (i + 1))
    (unsigned i))
sign_from (timed q) t i = cond (byte_is t i 85) (bound_from q t (i + 1)) (unsigned i)

unfoldable pub sign_of : Opening → List ℕ → ℕ → Signed
sign_of o t i = cond (byte_is t i 32) (sign_from o t (i + 1)) (unsigned i)

-- the tag and c; for none the place
abbrev pub sign_token : Signed → Result Token ℕ
sign_token (joins j e) = Ok (token (join_tag j) (number_of j) e)
sign_token (unsigned e) = Err e
