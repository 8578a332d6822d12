-- The call that reads a rule typed as text. The quoted words are of 02, paper 5.
use Rattle.std.specs.Prelude.{◌≡◌, cond, List, [], ◌∷◌, ℕ, ◌+◌, ◌*◌, length, eqb, ltb}
use Rattle.std.proofs.Math.Option.{Option, none, some}
use Rattle.append.specs.Piece.{AtFront}
use Rattle.outcome.specs.declared.Written.{Written}
use Rattle.outcome.specs.Refusal.{Row, refuse, whole, first, refusal}
use Rattle.rule_grammar.specs.Grammar.{Verdict, fault, formula, Judged}
use Rattle.rule_bytes.specs.RuleBytes.{nodes, rule_bytes}

-- where a text has its fault
abbrev pub fault_of : Verdict → Option ℕ
fault_of (fault p) = some p
fault_of (formula f) = none

abbrev pub nodes_of : Verdict → ℕ
nodes_of (fault p) = 0
nodes_of (formula f) = nodes f

-- "reading, 65 above 4,096 bytes, 64 text not of the grammar, .. 65 above 64 nodes; last 66 output short": of a text of
-- so many bytes, what it is, and an output of so many
unfoldable pub read_table : ℕ → Verdict → ℕ → List Row
read_table bytes v room =
    refuse 65 (whole (ltb 4096 bytes)) ∷
    refuse 64 (fault_of v) ∷
    refuse 65 (whole (ltb 64 (nodes_of v))) ∷
    refuse 66 (whole (ltb room (7 + 8 * nodes_of v))) ∷
    []

-- "The text becomes a rule in bytes"
abbrev pub rule_of : Verdict → List ℕ
rule_of (fault p) = []
rule_of (formula f) = rule_bytes f

-- nothing on a refusal
abbrev pub written_rule : Verdict → ℕ → List ℕ
written_rule v number = cond (eqb number 0) (rule_of v) []

-- the whole answer r, and the output afterwards, by what the text is
pub record ReadAs (t output : List ℕ) (r : Written) (newOutput : List ℕ) : Type 0 where
  pub verdict : Verdict
  pub judged : Judged t verdict
  pub outcome : r.outcome ≡ first (read_table (length t) verdict (length output))
  pub front : AtFront (written_rule verdict r.outcome.number) r.written output newOutput

abbrev pub refused : ℕ → ℕ → Written
refused number place = record { outcome = refusal number place; written = 0 }
