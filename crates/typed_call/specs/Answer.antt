-- What the program desk_rule makes of the bytes that it reads.
use Rattle.std.specs.Prelude.{◌≡◌, cond, List, [], ℕ, ◌-◌, ◌<◌, length, get_or, take, eqb}
use Rattle.append.specs.Piece.{AtFront}
use Rattle.outcome.specs.declared.Outcome.{Outcome}
use Rattle.outcome.specs.Refusal.{first}
use Rattle.rule_grammar.specs.Grammar.{Verdict, Judged}
use Rattle.call_read_rule.specs.Read.{read_table, written_rule}
use Rattle.typed_call.specs.declared.Typed.{Typed}
use Rattle.typed_listing.specs.Refused.{refused_text}

-- how many bytes of standard input are read
abbrev pub input_read : ℕ
input_read = 4098

-- the output that is lent for the rule: 7 + 8 × 64 bytes
abbrev pub rule_room : ℕ
rule_room = 519

-- the text of an input: the newline that ends the line of it is no part of it, and any other byte is
unfoldable pub typed : List ℕ → List ℕ
typed input = cond (eqb (get_or input (length input - 1) 0) 10) (take (length input - 1) input) input

-- what reading a text answers, by what the text is
abbrev pub outcome_of : List ℕ → Verdict → Outcome
outcome_of t v = first (read_table (length t) v rule_room)

-- on acceptance nothing is printed
abbrev pub printed_of : List ℕ → Outcome → List ℕ
printed_of t o = cond (eqb o.number 0) [] (refused_text o t)

-- the answer, the rule that is written, and the text that is printed
pub record Typing (input rule out : List ℕ) (r : Typed) (newRule newOut : List ℕ) : Type 0 where
  pub verdict : Verdict
  pub judged : Judged (typed input) verdict
  pub answer : r.outcome ≡ outcome_of (typed input) verdict
  pub rule_front : AtFront (written_rule verdict (outcome_of (typed input) verdict).number) r.written rule newRule
  pub text_front : AtFront (printed_of (typed input) (outcome_of (typed input) verdict)) r.printed out newOut

-- that so many bytes are enough
pub record Enough : Type 0 where
  -- an input that has more is refused by what is read of it: that has a text above 4,096 bytes
  pub read : (input : List ℕ) → length input ≡ input_read → 4096 < length (typed input)
  -- a rule always fits
  pub lent : (t : List ℕ) (v : Verdict) → Judged t v → ¬ ((outcome_of t v).number ≡ 66)
