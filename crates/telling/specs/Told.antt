-- What a program tells of a refusal: one line for a person.
use Rattle.std.specs.Prelude.{cond, List, [], ◌++◌, ℕ, length, eqb}
use Rattle.decimal.specs.Decimal.{decimal}
use Rattle.outcome.specs.declared.Outcome.{Outcome}
use Rattle.refusal_words.specs.Bytes.{bytes}
use Rattle.refusal_words.specs.Sentences.{sentence_of, counts_of, paper_of}

-- ", state 2", or nothing where the place counts nothing
unfoldable pub counted_text : ℕ → ℕ → List ℕ
counted_text number place =
    cond (eqb (length (counts_of number)) 0) [] (bytes ", " ++ counts_of number ++ bytes " " ++ decimal place)

-- "state without an outgoing arrow (chart or detail, state 2"
unfoldable pub told_text : Outcome → List ℕ
told_text o = sentence_of o.number ++ bytes " (" ++ paper_of o.entry ++ counted_text o.number o.place

-- "desk: state without an outgoing arrow (chart or detail, state 2)" on a line, of a refusal; nothing of an acceptance
unfoldable pub told : List ℕ → Outcome → List ℕ
told program o = cond (eqb o.number 0) [] (program ++ bytes ": " ++ told_text o ++ bytes ")\n")
