-- What the program desk_text prints of a rule's bytes.
use Rattle.std.specs.Prelude.{◌≡◌, cond, List, ◌++◌, ℕ, eqb}
use Rattle.outcome.specs.declared.Outcome.{Outcome}
use Rattle.rule.specs.Refusals.{rule_refusal}
use Rattle.rule.specs.Formula.{formula_of}
use Rattle.rule_grammar.specs.Text.{text}
use Rattle.append.specs.Piece.{AtFront}
use Rattle.listing.specs.Text.{newline, refused_line}
use Rattle.desk_call.specs.declared.Reported.{Reported}

-- the line of an answer: "its tree's one text" (02, paper 5), or the refusal
abbrev pub line_of : List ℕ → Outcome → List ℕ
line_of rule answer =
    cond (eqb answer.number 0) (text (formula_of rule) ++ newline) (refused_line answer)

-- what is printed: there is room for every text, so 66 is no answer
unfoldable pub printed_text : List ℕ → List ℕ
printed_text rule = line_of rule (rule_refusal rule)

-- the answer, and what is printed of it
pub record Reports (rule : List ℕ) (r : Reported) (old new : List ℕ) : Type 0 where
  pub answer : r.outcome ≡ rule_refusal rule
  pub front : AtFront (printed_text rule) r.printed old new
