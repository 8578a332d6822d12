-- The token at a place where an operand starts.
use Rattle.std.specs.Prelude.{cond, Option, Some, None, Result, Ok, Err, List, ℕ, ◌+◌}
use Rattle.tctl.specs.Kind.{Runs, some_run, all_runs}
use Rattle.rule_grammar.specs.Machine.{Opening, pair, timed}
use Rattle.rule_numbers.specs.declared.Number.{Number}
use Rattle.rule_tokens.specs.declared.Token.{Token}
use Rattle.rule_tokens.specs.Tags.{open_tag}
use Rattle.rule_numbers.specs.Byte.{byte_is}
use Rattle.rule_numbers.specs.Number.{number_from}

-- what it is and where it ends; where there is none, the first byte that none goes on from
pub data Start : Type 0 where
  truth : ℕ → Start
  labels : ℕ → ℕ → Start
  negates : ℕ → Start
  opens : Opening → ℕ → Start
  nowhere : ℕ → Start

-- behind "t"
abbrev pub true_from : List ℕ → ℕ → Start
true_from t i =
    cond (byte_is t i 114)
    (cond (byte_is t (i + 1) 117)
    (cond (byte_is t (i + 2) 101) (truth (i + 3)) (nowhere (i + 2)))
    (nowhere (i + 1)))
    (nowhere i)

-- behind "L"
abbrev pub label_of : ℕ → Option Number → Start
label_of i None = nowhere i
label_of i (Some n) = labels n.value n.end

abbrev pub label_from : List ℕ → ℕ → Start
label_from t i = label_of i (number_from 15 t i)

-- behind "E" or "A"
abbrev pub bracket_from : Runs → List ℕ → ℕ → Start
bracket_from q t i = cond (byte_is t i 40) (opens (timed q) (i + 1)) (nowhere i)

-- the six bytes that an operand starts with, one after another, the last first
abbrev pub from_a : List ℕ → ℕ → Start
from_a t i = cond (byte_is t i 65) (bracket_from all_runs t (i + 1)) (nowhere i)

abbrev pub from_e : List ℕ → ℕ → Start
from_e t i = cond (byte_is t i 69) (bracket_from some_run t (i + 1)) (from_a t i)

abbrev pub from_open : List ℕ → ℕ → Start
from_open t i = cond (byte_is t i 40) (opens pair (i + 1)) (from_e t i)

abbrev pub from_not : List ℕ → ℕ → Start
from_not t i = cond (byte_is t i 33) (negates (i + 1)) (from_open t i)

abbrev pub from_l : List ℕ → ℕ → Start
from_l t i = cond (byte_is t i 76) (label_from t (i + 1)) (from_not t i)

unfoldable pub start_of : List ℕ → ℕ → Start
start_of t i = cond (byte_is t i 116) (true_from t (i + 1)) (from_l t i)

abbrev pub token : ℕ → ℕ → ℕ → Token
token tag number end = record { tag = tag; number = number; end = end }

-- 0 and 1, the node's operation, for one that is an operand; the tag of one that stands before an operand; for none the
-- place
abbrev pub start_token : Start → Result Token ℕ
start_token (truth e) = Ok (token 0 0 e)
start_token (labels n e) = Ok (token 1 n e)
start_token (negates e) = Ok (token 2 0 e)
start_token (opens o e) = Ok (token (open_tag o) 0 e)
start_token (nowhere e) = Err e
