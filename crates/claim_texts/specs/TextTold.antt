-- What the calls that read a rule from text and write it back answer and leave, whatever they were handed. The quoted
-- words are of 02, paper 5, or of 01.
use Rattle.std.specs.Prelude.{◌≡◌, List, ◌++◌, ℕ, ◌+◌, ◌*◌, ◌≤◌, ◌<◌, length, drop}
use Rattle.outcome.specs.declared.Written.{Written}
use Rattle.outcome.specs.Refusal.{success, refusal}
use Rattle.tctl.specs.Formula.{Formula}
use Rattle.rule.specs.Formula.{formula_of}
use Rattle.rule.specs.Refusals.{rule_refusal}
use Rattle.rule_grammar.specs.Text.{text}
use Rattle.rule_grammar.specs.Grammar.{TextOf, Fault, Verdict, Judged}
use Rattle.rule_bytes.specs.RuleBytes.{nodes, rule_bytes}

-- the output has these bytes, as many as are answered; "bytes past a result are kept" (01)
pub record Gives (bytes output : List ℕ) (r : Written) (newOutput : List ℕ) : Type 0 where
  pub outcome : r.outcome ≡ success
  pub written : r.written ≡ length bytes
  pub leaves : newOutput ≡ bytes ++ drop (length bytes) output

-- "a refusal changes nothing in a lent buffer" (01)
pub record Kept (output : List ℕ) (r : Written) (newOutput : List ℕ) : Type 0 where
  pub written : r.written ≡ 0
  pub leaves : newOutput ≡ output

-- of the call that reads
pub record ReadTold (t output : List ℕ) (r : Written) (newOutput : List ℕ) : Type 0 where
  -- a text is of the grammar or has a fault: there is no other case
  pub decided : (v : Verdict) × Judged t v
  -- "65 above 4,096 bytes"
  pub long : 4096 < length t → r.outcome ≡ refusal 65 0
  -- "64 text not of the grammar", with its place
  pub fault : length t ≤ 4096 → (p : ℕ) → Fault t p → r.outcome ≡ refusal 64 p
  -- "65 above 64 nodes"
  pub many : length t ≤ 4096 → (f : Formula) → TextOf t f → 64 < nodes f → r.outcome ≡ refusal 65 0
  -- "last 66 output short"
  pub short :
      length t ≤ 4096 → (f : Formula) → TextOf t f → nodes f ≤ 64 → length output < 7 + 8 * nodes f →
      r.outcome ≡ refusal 66 0
  -- "The text becomes a rule in bytes"
  pub taken :
      length t ≤ 4096 → (f : Formula) → TextOf t f → nodes f ≤ 64 → 7 + 8 * nodes f ≤ length output →
      Gives (rule_bytes f) output r newOutput
  pub kept : ¬ (r.outcome.number ≡ 0) → Kept output r newOutput

-- of the call that writes
pub record WroteTold (rule output : List ℕ) (r : Written) (newOutput : List ℕ) : Type 0 where
  -- "writing back, 10 to 16"
  pub refused : ¬ ((rule_refusal rule).number ≡ 0) → r.outcome ≡ rule_refusal rule
  -- "last 66 output short"
  pub short :
      (rule_refusal rule).number ≡ 0 → length output < length (text (formula_of rule)) → r.outcome ≡ refusal 66 0
  -- "a rule is also written back as its tree's one text"
  pub taken :
      (rule_refusal rule).number ≡ 0 → length (text (formula_of rule)) ≤ length output →
      Gives (text (formula_of rule)) output r newOutput
  pub kept : ¬ (r.outcome.number ≡ 0) → Kept output r newOutput
