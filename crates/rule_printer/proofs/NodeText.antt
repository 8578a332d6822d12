-- The text of a node of an accepted rule, from the texts of its operands: what each turn of the writer is to put.
use mathlib.Core.Path.{◌≡◌, sym, ap, ◌∙◌}
use mathlib.Core.Logic.{by_cases}
use mathlib.Core.List.{List, [], ◌∷◌, ◌++◌, append_assoc, append-nil}
use Prim.Native.Nat.{ℕ, ◌≤◌, ◌<◌}
use native.Mathlib.Decide.{ℕ_discrete}
use native.Mathlib.Omega.{arith}
use Rattle.tctl.specs.Formula.{Formula}
use Rattle.rule.specs.Formula.{operation, formula_at}
use Rattle.rule.specs.declared.NodeWords.{NodeWords}
use Rattle.rule.proofs.Read.{ReadNode, step, known}
use Rattle.rule_grammar.specs.Text.{operands, text}
use Rattle.rule_printer.specs.Parts.{leaf_text, opening_text, sign_text, between_text}

-- the parts of joined operands one after another: up to the first operand, and from there on
in_turn :
    (opening sign f g : List ℕ) →
    operands opening sign f g ≡ opening ++ f ++ (32 ∷ [] ++ sign ++ 32 ∷ [] ++ g ++ 41 ∷ [])
in_turn opening sign f g = simp append_assoc

-- ── By the operation byte ──

module _ (op : ℕ) (w : NodeWords) (at : ℕ → Formula) where
  leaf : op < 2 → text (operation op w at) ≡ leaf_text op w.a
  unfolding text leaf_text
  leaf l = turn (ℕ_discrete op 0)
    where
      turn : Dec (op ≡ 0) → text (operation op w at) ≡ leaf_text op w.a
      turn (yes e) = rw e
      turn (no h) = let e : op ≡ 1 = omega arith in rw e

  negated : op ≡ 2 → text (operation op w at) ≡ opening_text op ++ text (at w.a)
  unfolding text opening_text
  negated e = rw e

  joined :
      2 < op → op ≤ 6 →
      text (operation op w at) ≡
      operands (opening_text op) (sign_text op w.kind w.c) (text (at w.a)) (text (at w.b))
  unfolding text opening_text sign_text
  joined h l = turn (ℕ_discrete op 3) (ℕ_discrete op 4) (ℕ_discrete op 5)
    where
      turn :
          Dec (op ≡ 3) → Dec (op ≡ 4) → Dec (op ≡ 5) →
          text (operation op w at) ≡
          operands (opening_text op) (sign_text op w.kind w.c) (text (at w.a)) (text (at w.b))
      turn (yes e) f g = rw e
      turn (no d) (yes e) g = rw e
      turn (no d) (no f) (yes e) = rw e
      turn (no d) (no f) (no g) = let e : op ≡ 6 = omega arith in rw e

-- ── Of a node that was read ──

module _ {s : List ℕ} {t : ℕ} {w : NodeWords} (node : ReadNode s t w) where
  abbrev at : ℕ → Formula
  at = formula_at s

  pub text_leaf : w.operation < 2 → text (at t) ≡ leaf_text w.operation w.a
  text_leaf h = ap text (step node) ∙ leaf w.operation w at h

  pub text_not : w.operation ≡ 2 → text (at t) ≡ opening_text w.operation ++ text (at w.a)
  text_not h = ap text (step node) ∙ negated w.operation w at h

  -- what follows the first of two operands
  abbrev pub rest_text : List ℕ
  rest_text = between_text w.operation w.kind w.c ++ text (at w.b) ++ 41 ∷ []

  pub text_joined : 2 < w.operation → text (at t) ≡ opening_text w.operation ++ text (at w.a) ++ rest_text
  unfolding between_text
  text_joined h =
      ap text (step node) ∙ joined w.operation w at h (known node) ∙
      in_turn (opening_text w.operation) (sign_text w.operation w.kind w.c) _ _

  -- before it is known whether there is a second operand
  pub text_begins :
      2 ≤ w.operation → (rest : List ℕ) × (text (at t) ≡ opening_text w.operation ++ text (at w.a) ++ rest)
  text_begins h =
      by_cases (ℕ_discrete w.operation 2) (λ e. ([], text_not e ∙ sym (append-nil _)))
      (λ d. (rest_text, text_joined (omega arith)))
