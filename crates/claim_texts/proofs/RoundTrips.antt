-- Both ways round, from the promises of the two calls and the laws of texts and rules.
use mathlib.Core.Path.{◌≡◌, refl, sym, ap, subst, ◌∙◌}
use mathlib.Core.List.{List}
use Prim.Native.Nat.{ℕ, ◌+◌, ◌*◌, ◌≤◌, ◌<◌}
use native.Mathlib.Omega.{arith}
use native.Mathlib.Decide.{dec_lt, ℕ_discrete}
use lib.ListN.{length, take, drop}
use lib.Seq.{take_at}
use Rattle.outcome.specs.declared.Outcome.{Outcome}
use Rattle.outcome.specs.declared.Written.{Written}
use Rattle.tctl.specs.Formula.{Formula}
use Rattle.rule.specs.Formula.{formula_of}
use Rattle.rule.specs.Refusals.{rule_refusal}
use Rattle.rule.proofs.Accepted.{accepted}
use Rattle.rule_grammar.specs.Text.{text}
use Rattle.rule_grammar.specs.Grammar.{TextOf, Verdict, fault, formula, Judged, faulty, whole}
use Rattle.rule_grammar.proofs.Judged.{text_unique}
use Rattle.rule_bytes.specs.RuleBytes.{nodes, rule_bytes}
use Rattle.rule_bytes.proofs.Tree.{formula_written}
use Rattle.rule_bytes.proofs.WrittenAccepted.{written_accepted}
use Rattle.rule_bytes.proofs.Range.{accepted_range}
use Rattle.rule_printer.proofs.NodeCount.{nodes_counted}
use Rattle.rule_printer.proofs.Size.{text_size}
use Rattle.rule_order.specs.LeftFirst.{LeftFirst}
use Rattle.rule_order.proofs.LeftFirst.{left_first}
use Rattle.rule_order.proofs.LeftFirstWritten.{left_first_written}
use Rattle.call_read_rule.specs.Read.{ReadAs}
use Rattle.call_write_rule.specs.Write.{Wrote}
use Rattle.claim_texts.specs.TextTold.{Gives, ReadTold, WroteTold}
use Rattle.claim_texts.specs.RoundTrips.{front, Bytes, RoundTrips}
use Rattle.claim_texts.proofs.TextTold.{read_told, wrote_told}

-- what was given stands at the front
given : {bytes output : List ℕ} {r : Written} {new : List ℕ} → Gives bytes output r new → front r new ≡ bytes
given {bytes} {output} {r} h =
    ap (take r.written) h.leaves ∙ take_at bytes (drop (length bytes) output) r.written (sym h.written)

-- a number other than 0 is a refusal
not_0 : {o o' : Outcome} {n : ℕ} → o ≡ o' → o'.number ≡ n → 0 < n → o.number ≡ 0 → ⊥
not_0 e k l z = let y = ap (λ (x : Outcome). x.number) e in omega (arith, y, k, l, z)

-- ── a text that is read ──

-- it is short, of the grammar and of few nodes, and there was room: every other case is refused
record Read (t output : List ℕ) (r : Written) (new : List ℕ) : Type 0 where
  tree : Formula
  text_of : TextOf t tree
  few : nodes tree ≤ 64
  gives : front r new ≡ rule_bytes tree

read_cases :
    {t output : List ℕ} {r : Written} {new : List ℕ} → ReadAs t output r new → r.outcome.number ≡ 0 →
    Read t output r new
read_cases {t} {output} {r} {new} h z = turn h.verdict h.judged (dec_lt 4096 (length t))
  where
    told : ReadTold t output r new
    told = read_told h

    turn : (v : Verdict) → Judged t v → Dec (4096 < length t) → Read t output r new
    turn v j (yes l) = absurd (not_0 (told.long l) refl (omega arith) z)
    turn (fault p) (faulty x) (no l) = absurd (not_0 (told.fault (omega arith) p x) refl (omega arith) z)
    turn (formula f) (whole x) (no l) = sized (dec_lt 64 (nodes f)) (dec_lt (length output) (7 + 8 * nodes f))
      where
        sized : Dec (64 < nodes f) → Dec (length output < 7 + 8 * nodes f) → Read t output r new
        sized (yes m) d = absurd (not_0 (told.many (omega arith) f x m) refl (omega arith) z)
        sized (no m) (yes s) = absurd (not_0 (told.short (omega arith) f x (omega arith) s) refl (omega arith) z)
        sized (no m) (no s) =
            record {
              tree = f;
              text_of = x;
              few = omega arith;
              gives = given (told.taken (omega arith) f x (omega arith) (omega arith));
            }

-- ── a rule that is written ──

-- it passes 10 to 16, and there was room
record Wrote-it (rule output : List ℕ) (r : Written) (new : List ℕ) : Type 0 where
  passed : (rule_refusal rule).number ≡ 0
  gives : front r new ≡ text (formula_of rule)

wrote_cases :
    {rule output : List ℕ} {r : Written} {new : List ℕ} → Wrote rule output r new → r.outcome.number ≡ 0 →
    Wrote-it rule output r new
wrote_cases {rule} {output} {r} {new} h z =
    turn (ℕ_discrete (rule_refusal rule).number 0) (dec_lt (length output) (length (text (formula_of rule))))
  where
    told : WroteTold rule output r new
    told = wrote_told h

    turn :
        Dec ((rule_refusal rule).number ≡ 0) → Dec (length output < length (text (formula_of rule))) →
        Wrote-it rule output r new
    turn (no n) d = absurd (n (ap (λ (o : Outcome). o.number) (sym (told.refused n)) ∙ z))
    turn (yes e) (yes l) = absurd (not_0 (told.short e l) refl (omega arith) z)
    turn (yes e) (no l) = record { passed = e; gives = given (told.taken e (omega arith)) }

-- read again: its text is short and of few nodes, so it is taken
again :
    {rule output : List ℕ} {r : Written} {new : List ℕ} → Bytes rule → Wrote rule output r new → r.outcome.number ≡ 0 →
    {output' : List ℕ} {r' : Written} {new' : List ℕ} → ReadAs (front r new) output' r' new' →
    length rule ≤ length output' → Gives (rule_bytes (formula_of rule)) output' r' new'
again {rule} bytes w z {output'} {r'} {new'} h l =
    let it = wrote_cases w z in
    let acc = accepted rule it.passed in
    let size = text_size rule it.passed bytes in
    let count = nodes_counted acc in
    let shape = acc.shape in
    let f = formula_of rule in
    let told = read_told (subst (λ (t : List ℕ). ReadAs t output' r' new') it.gives h) in
    told.taken (omega (arith, size)) f (record { range = accepted_range rule it.passed bytes; same = refl })
    (omega (arith, count, shape.few_nodes)) (omega (arith, count, shape.whole, l))

pub round_trips : RoundTrips
round_trips =
    record {
      one_tree = text_unique;
      accepted =
          λ t output r new h z.
          let it = read_cases h z in
          let f = it.tree in (
            ap rule_refusal it.gives ∙ written_accepted f it.few it.text_of.range,
            subst (TextOf t) (sym (ap formula_of it.gives ∙ formula_written f)) it.text_of,
            subst LeftFirst (sym it.gives) (left_first_written f),
          );
      text_again =
          λ t output r new h z output' r' new' w l.
          let it = read_cases h z in
          let f = it.tree in
          let back = wrote_told (subst (λ (s : List ℕ). Wrote s output' r' new') it.gives w) in
          let same : text (formula_of (rule_bytes f)) ≡ t = ap text (formula_written f) ∙ it.text_of.same in
          let passed = ap (λ (o : Outcome). o.number) (written_accepted f it.few it.text_of.range) in
          let gives = back.taken passed (omega (arith, ap length same, l)) in
          (gives.outcome, given gives ∙ same);
      rule_again =
          λ rule output r new bytes w z output' r' new' h l.
          let gives = again bytes w z h l in
          (gives.outcome, ap formula_of (given gives) ∙ formula_written (formula_of rule));
      bytes_again =
          λ rule output r new bytes w z ordered output' r' new' h l.
          given (again bytes w z h l) ∙ left_first rule (wrote_cases w z).passed bytes ordered;
    }
