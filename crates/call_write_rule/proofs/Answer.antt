-- The answer of the call that writes a rule: on a refusal of the rule, of a short output, and on acceptance.
use mathlib.Core.Path.{◌≡◌, sym, ap}
use mathlib.Core.Bool.{cond}
use mathlib.Core.List.{List, [], ◌∷◌}
use Prim.Native.Nat.{ℕ, ◌≤◌, ◌<◌}
use lib.ListN.{length, take}
use lib.Seq.{take-append_seam}
use lib.Dec.{ltb}
use borrow.Author.Tests.{lt-ltb, le-ltb, ne_eqb}
use Rattle.append.specs.Piece.{AtFront}
use Rattle.append.proofs.Append.{at_front_text, at_front_none}
use Rattle.outcome.specs.declared.Outcome.{Outcome}
use Rattle.outcome.specs.Refusal.{refuse, whole, success, refusal, first}
use Rattle.outcome.proofs.First.{part_refuses, part_passes}
use Rattle.rule.specs.Refusals.{rule_table, rule_refusal}
use Rattle.rule.specs.Formula.{formula_of}
use Rattle.rule_grammar.specs.Text.{text}
use Rattle.call_write_rule.specs.Write.{write_table, Wrote}

-- what was put at the front is read there
pub front_piece : {piece : List ℕ} {r : ℕ} {old new : List ℕ} → AtFront piece r old new → take r new ≡ piece
front_piece {piece} h = rw (h.end, h.bytes) (take-append_seam piece _)

module _ (rule output : List ℕ) {o : Outcome} (tested : o ≡ rule_refusal rule) where
  pub refused : ¬ (o.number ≡ 0) → Wrote rule output (record { outcome = o; written = 0 }) output
  unfolding write_table
  refused h =
      record {
        outcome = part_refuses (rule_table rule) _ tested h;
        front = at_front_text (sym (ap (λ b. cond b (text (formula_of rule)) []) (ne_eqb o.number 0 h))) at_front_none;
      }

  module _ (passed : o.number ≡ 0) where
    abbrev size : ℕ
    size = length (text (formula_of rule))

    -- past the rule's rows the answer is that of row 66
    last_row :
        {x : Outcome} → x ≡ first (refuse 66 (whole (ltb (length output) size)) ∷ []) →
        x ≡ first (write_table rule (length output))
    unfolding write_table rule_table
    last_row = part_passes (rule_table rule) _ tt tested passed

    pub short :
        length output < size → {x : Outcome} → x ≡ refusal 66 0 →
        Wrote rule output (record { outcome = x; written = 0 }) output
    unfolding first
    short l {x} e =
        record {
          outcome = last_row (rw (lt-ltb (length output) size l) e);
          front = rw e at_front_none;
        }

    pub written :
        size ≤ length output → {x : Outcome} → x ≡ success → {r : ℕ} {new : List ℕ} →
        AtFront (text (formula_of rule)) r output new → Wrote rule output (record { outcome = x; written = r }) new
    unfolding first
    written l {x} e h =
        record {
          outcome = last_row (rw (le-ltb (length output) size l) e);
          front = rw e h;
        }
