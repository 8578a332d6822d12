-- From text to rule and back. The quoted words are of 02, paper 5.
use Rattle.std.specs.Prelude.{◌≡◌, List, ℕ, ◌≤◌, ◌<◌, length, get_or, take}
use Rattle.outcome.specs.declared.Written.{Written}
use Rattle.outcome.specs.Refusal.{success}
use Rattle.tctl.specs.Formula.{Formula}
use Rattle.rule.specs.Formula.{formula_of}
use Rattle.rule.specs.Refusals.{rule_refusal}
use Rattle.rule_grammar.specs.Text.{text}
use Rattle.rule_grammar.specs.Grammar.{InRange, TextOf}
use Rattle.rule_order.specs.LeftFirst.{LeftFirst}
use Rattle.call_read_rule.specs.Read.{ReadAs}
use Rattle.call_write_rule.specs.Write.{Wrote}

-- what a call wrote
abbrev pub front : Written → List ℕ → List ℕ
front r newOutput = take r.written newOutput

-- a list of bytes
abbrev pub Bytes : List ℕ → Type 0
Bytes s = (i : ℕ) → get_or s i 0 < 256

pub record RoundTrips : Type 0 where
  -- "each with one tree"
  pub one_tree : (f g : Formula) → InRange f → InRange g → text f ≡ text g → f ≡ g
  -- a text that is read becomes a rule that passes 10 to 16, stands for the formula whose text it is, and has its
  -- "operands before their node, left first"
  pub accepted :
      (t output : List ℕ) (r : Written) (new : List ℕ) → ReadAs t output r new → r.outcome.number ≡ 0 →
      (rule_refusal (front r new) ≡ success) × TextOf t (formula_of (front r new)) × LeftFirst (front r new)
  -- written back, it is the same text
  pub text_again :
      (t output : List ℕ) (r : Written) (new : List ℕ) → ReadAs t output r new → r.outcome.number ≡ 0 →
      (output' : List ℕ) (r' : Written) (new' : List ℕ) → Wrote (front r new) output' r' new' → length t ≤ length output' →
      (r'.outcome ≡ success) × (front r' new' ≡ t)
  -- a rule that is written back and read again has the same formula
  pub rule_again :
      (rule output : List ℕ) (r : Written) (new : List ℕ) → Bytes rule → Wrote rule output r new → r.outcome.number ≡ 0 →
      (output' : List ℕ) (r' : Written) (new' : List ℕ) → ReadAs (front r new) output' r' new' →
      length rule ≤ length output' → (r'.outcome ≡ success) × (formula_of (front r' new') ≡ formula_of rule)
  -- and the same bytes, if its nodes stand "left first"
  pub bytes_again :
      (rule output : List ℕ) (r : Written) (new : List ℕ) → Bytes rule → Wrote rule output r new → r.outcome.number ≡ 0 →
      LeftFirst rule → (output' : List ℕ) (r' : Written) (new' : List ℕ) → ReadAs (front r new) output' r' new' →
      length rule ≤ length output' → front r' new' ≡ rule
