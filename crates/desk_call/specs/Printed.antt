-- What the desk program prints of a chart's and a rule's bytes.
use Rattle.std.specs.Prelude.{◌≡◌, cond, List, ℕ, replicate, eqb}
use Rattle.outcome.specs.declared.Outcome.{Outcome}
use Rattle.chart.specs.Bytes.{state_count}
use Rattle.rule.specs.Bytes.{node_count}
use Rattle.call_check.specs.Check.{check_refusal}
use Rattle.judge.specs.Judge.{marks_of}
use Rattle.append.specs.Piece.{AtFront}
use Rattle.listing.specs.Text.{listing, refused_line}
use Rattle.desk_call.specs.declared.Reported.{Reported}

-- the marks table that is lent: 64 × 256 bytes, enough for any chart and rule
abbrev pub lent_marks : List ℕ
lent_marks = replicate 16384 0

-- the scratch that is lent: 256 × 256 numbers, "the desk program lends 65,536" (02, paper 7)
abbrev pub lent_scratch : List ℕ
lent_scratch = replicate 65536 0

-- the answer of the check
abbrev pub answer_of : List ℕ → List ℕ → Outcome
answer_of chart rule = check_refusal chart rule lent_marks lent_scratch

-- the text of an answer: the listing of the marks, or the line of the refusal
abbrev pub text_of : List ℕ → List ℕ → Outcome → List ℕ
text_of chart rule answer =
    cond (eqb answer.number 0)
    (listing (state_count chart) (node_count rule) (marks_of chart rule))
    (refused_line answer)

-- what is printed
unfoldable pub printed : List ℕ → List ℕ → List ℕ
printed chart rule = text_of chart rule (answer_of chart rule)

-- the answer, and what is printed of it
pub record Reports (chart rule : List ℕ) (r : Reported) (old new : List ℕ) : Type 0 where
  pub answer : r.outcome ≡ answer_of chart rule
  pub front : AtFront (printed chart rule) r.printed old new
