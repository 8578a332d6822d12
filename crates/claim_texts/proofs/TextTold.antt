-- Each sentence from the promise of its call alone.
use mathlib.Core.Path.{◌≡◌, refl, sym, ap, ◌∙◌}
use mathlib.Core.Bool.{cond}
use mathlib.Core.List.{List, [], ◌∷◌}
use Prim.Native.Nat.{ℕ, ◌+◌, ◌*◌}
use lib.ListN.{length}
use lib.Dec.{eqb, ltb}
use borrow.Author.Tests.{lt-ltb, le-ltb, ne_eqb, eq-eqb}
use Rattle.append.specs.Piece.{AtFront}
use Rattle.append.proofs.Append.{at_front_text}
use Rattle.outcome.specs.declared.Outcome.{Outcome}
use Rattle.outcome.specs.declared.Written.{Written}
use Rattle.outcome.specs.Refusal.{refuse, whole as if-whole, success, first}
use Rattle.outcome.proofs.First.{part_refuses, part_passes}
use Rattle.rule.specs.Formula.{formula_of}
use Rattle.rule.specs.Refusals.{rule_table, rule_refusal}
use Rattle.rule_grammar.specs.Text.{text}
use Rattle.rule_grammar.specs.Grammar.{Verdict, fault, Judged, faulty, whole}
use Rattle.rule_grammar.proofs.Judged.{judged_unique}
use Rattle.rule_bytes.specs.RuleBytes.{nodes, rule_bytes}
use Rattle.call_read_rule.specs.Read.{read_table, rule_of, written_rule, ReadAs}
use Rattle.call_write_rule.specs.Write.{write_table, Wrote}
use Rattle.claim_texts.specs.TextTold.{Gives, Kept, ReadTold, WroteTold}

-- the output where the number is not 0, and where it is
module _ (bytes : List ℕ) {output new : List ℕ} {r : Written} where
  kept_front :
      ¬ (r.outcome.number ≡ 0) → AtFront (cond (eqb r.outcome.number 0) bytes []) r.written output new →
      Kept output r new
  kept_front n h =
      let e = at_front_text (ap (λ b. cond b bytes []) (ne_eqb r.outcome.number 0 n)) h in
      record { written = e.end; leaves = e.bytes }

  given_front :
      r.outcome ≡ success → AtFront (cond (eqb r.outcome.number 0) bytes []) r.written output new →
      Gives bytes output r new
  given_front e h =
      let zero : r.outcome.number ≡ 0 = ap (λ (o : Outcome). o.number) e in
      let f = at_front_text (ap (λ b. cond b bytes []) (eq-eqb r.outcome.number 0 zero)) h in
      record { outcome = e; written = f.end; leaves = f.bytes }

module _ {t output : List ℕ} {r : Written} {new : List ℕ} (h : ReadAs t output r new) where
  -- what the text is, is what the promise says of it
  same : {v : Verdict} → Judged t v → h.verdict ≡ v
  same j = judged_unique h.judged j

  -- the answer, by what the text is
  answer : {v : Verdict} → Judged t v → r.outcome ≡ first (read_table (length t) v (length output))
  answer j = h.outcome ∙ ap (λ (v : Verdict). first (read_table (length t) v (length output))) (same j)

  pub read_told : ReadTold t output r new
  unfolding read_table first
  read_told =
      record {
        decided = (h.verdict, h.judged);
        long = λ l. h.outcome ∙ rw (lt-ltb 4096 (length t) l);
        fault = λ l p f. answer (faulty f) ∙ rw (le-ltb 4096 (length t) l);
        many = λ l f x m. answer (whole x) ∙ rw (le-ltb 4096 (length t) l, lt-ltb 64 (nodes f) m);
        short =
            λ l f x m s.
            answer (whole x) ∙
            rw (le-ltb 4096 (length t) l, le-ltb 64 (nodes f) m, lt-ltb (length output) (7 + 8 * nodes f) s);
        taken =
            λ l f x m s.
            given_front (rule_bytes f)
            (answer (whole x) ∙
            rw (le-ltb 4096 (length t) l, le-ltb 64 (nodes f) m, le-ltb (length output) (7 + 8 * nodes f) s))
            (at_front_text (ap (λ (v : Verdict). written_rule v r.outcome.number) (same (whole x))) h.front);
        kept = λ n. kept_front (rule_of h.verdict) n h.front;
      }

module _ {rule output : List ℕ} {r : Written} {new : List ℕ} (h : Wrote rule output r new) where
  abbrev size : ℕ
  size = length (text (formula_of rule))

  -- past the rule's own rows the answer is that of row 66
  last_row :
      (rule_refusal rule).number ≡ 0 → first (refuse 66 (if-whole (ltb (length output) size)) ∷ []) ≡ r.outcome
  unfolding write_table rule_table
  last_row z = part_passes (rule_table rule) _ tt refl z refl ∙ sym h.outcome

  pub wrote_told : WroteTold rule output r new
  unfolding write_table first
  wrote_told =
      record {
        refused = λ n. h.outcome ∙ sym (part_refuses (rule_table rule) _ refl n);
        short = λ z l. sym (last_row z) ∙ rw (lt-ltb (length output) size l);
        taken =
            λ z l. given_front (text (formula_of rule)) (sym (last_row z) ∙ rw (le-ltb (length output) size l)) h.front;
        kept = λ n. kept_front (text (formula_of rule)) n h.front;
      }
