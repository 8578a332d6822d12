-- The formula of an accepted rule is in range: labels and exact bounds by check 14, other bounds since they have two bytes.
use mathlib.Core.Path.{◌≡◌, refl, ap, ◌∙◌}
use mathlib.Core.List.{List}
use Prim.Native.Nat.{ℕ, zero, suc, ◌+◌, ◌*◌, ◌-◌, ◌≤◌, ◌<◌}
use native.Mathlib.Omega.{arith}
use lib.ListN.{get_or}
use lib.Dec.{eqb}
use borrow.Author.Tests.{eqb-true, eqb-false}
use Rattle.base.proofs.Truth.{cond_elim}
use Rattle.rule_grammar.specs.Grammar.{InRange, BoundInRange}
use Rattle.rule.specs.Bytes.{node_count, node_words}
use Rattle.rule.specs.Form.{form_of}
use Rattle.rule.specs.Formula.{bound_of, formula_by, formula_of}
use Rattle.rule.specs.Refusals.{rule_refusal}
use Rattle.rule.proofs.Accepted.{AcceptedRule, accepted, bound_known, known, label_low, lower_a, lower_b}

bound_range :
    (kind c : ℕ) → (1 ≤ kind) × (kind ≤ 3) × (kind ≡ 3 → c ≤ 255) → c ≤ 65535 → BoundInRange (bound_of kind c)
bound_range kind c known h =
    cond_elim BoundInRange (eqb kind 1) (λ _. h) λ e.
    cond_elim BoundInRange (eqb kind 2) (λ _. h) λ f.
    known.2 (omega (arith, known.0, known.1, eqb-false kind 1 e, eqb-false kind 2 f))

module _ {s : List ℕ} (acc : AcceptedRule s) (bytes : (i : ℕ) → get_or s i 0 < 256) where
  c_low : (t : ℕ) → (node_words s t).c ≤ 65535
  unfolding node_words
  c_low t = omega (arith, bytes (7 + 8 * t + 6), bytes (7 + 8 * t + 6 + 1))

  until_range :
      (t : ℕ) → t < node_count s → {op : ℕ} → (node_words s t).operation ≡ op → form_of op ≡ 4 →
      BoundInRange (bound_of (node_words s t).kind (node_words s t).c)
  until_range t l e h =
      let w = node_words s t in
      bound_range w.kind w.c (bound_known w (acc.formed t l) (ap form_of e ∙ h)) (c_low t)

  node_range : (d t : ℕ) → t < node_count s → InRange (formula_by d s t)
  unfolding formula_by form_of
  node_range zero t l = tt
  node_range (suc d) t l =
      let w = node_words s t in
      let op = w.operation in
      let at = formula_by d s in
      cond_elim InRange (eqb op 0) (λ _. tt) λ h.
      cond_elim InRange (eqb op 1)
      (λ e. let z = label_low acc t l (eqb-true op 1 e) in let y : w.a ≤ 15 = omega arith in y) λ i.
      let two : 2 ≤ op = omega (arith, eqb-false op 0 h, eqb-false op 1 i) in
      let low = lower_a acc t l two in
      let f : InRange (at w.a) = node_range d w.a (omega arith) in
      cond_elim InRange (eqb op 2) (λ _. f) λ j.
      let three : 3 ≤ op = omega (arith, two, eqb-false op 2 j) in
      let low₂ = lower_b acc t l three in
      let g : InRange (at w.b) = node_range d w.b (omega arith) in
      cond_elim InRange (eqb op 3) (λ _. (f, g)) λ m.
      cond_elim InRange (eqb op 4) (λ _. (f, g)) λ n.
      cond_elim InRange (eqb op 5) (λ e. (until_range t l (eqb-true op 5 e) refl, f, g)) λ o.
      let six : op ≡ 6 = omega (arith, known acc t l, three, eqb-false op 3 m, eqb-false op 4 n, eqb-false op 5 o) in
      (until_range t l six refl, f, g)

pub accepted_range :
    (s : List ℕ) → (rule_refusal s).number ≡ 0 → ((i : ℕ) → get_or s i 0 < 256) → InRange (formula_of s)
accepted_range s e bytes =
    let acc = accepted s e in
    node_range acc bytes (suc (node_count s - 1)) (node_count s - 1) (omega (arith, acc.shape.some_nodes))
