-- The call that writes a rule back as text. The quoted words are of 02, paper 5.
use Rattle.std.specs.Prelude.{◌≡◌, cond, List, [], ◌∷◌, ◌++◌, ℕ, length, eqb, ltb}
use Rattle.append.specs.Piece.{AtFront}
use Rattle.outcome.specs.declared.Written.{Written}
use Rattle.outcome.specs.Refusal.{Row, refuse, whole, first}
use Rattle.rule.specs.Refusals.{rule_table}
use Rattle.rule.specs.Formula.{formula_of}
use Rattle.rule_grammar.specs.Text.{text}

-- "Checks: writing back, 10 to 16; .. last 66 output short", of an output of so many bytes
unfoldable pub write_table : List ℕ → ℕ → List Row
write_table rule room =
    rule_table rule ++
    refuse 66 (whole (ltb room (length (text (formula_of rule))))) ∷
    []

-- "a rule is also written back as its tree's one text"; nothing on a refusal
abbrev pub written_text : List ℕ → ℕ → List ℕ
written_text rule number = cond (eqb number 0) (text (formula_of rule)) []

-- the whole answer r, and the output afterwards
pub record Wrote (rule output : List ℕ) (r : Written) (newOutput : List ℕ) : Type 0 where
  pub outcome : r.outcome ≡ first (write_table rule (length output))
  pub front : AtFront (written_text rule r.outcome.number) r.written output newOutput
