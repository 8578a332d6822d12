-- What is printed of what the call answers.
use mathlib.Core.Path.{◌≡◌, refl, sym, ap, ◌∙◌}
use mathlib.Core.Bool.{Bool, true, false, cond}
use mathlib.Core.List.{List, [], ◌∷◌, ◌++◌}
use Prim.Native.Nat.{ℕ, ◌≤◌, ◌<◌}
use native.Mathlib.Omega.{arith}
use lib.ListN.{length, get_or, take, length-append}
use lib.Dec.{eqb, ltb}
use borrow.Author.Tests.{eqb-true, eqb-false, le-ltb, eq-eqb, ne_eqb}
use Rattle.append.specs.Piece.{Room}
use Rattle.outcome.specs.declared.Written.{Written}
use Rattle.outcome.specs.Refusal.{Row, refuse, whole, success, first}
use Rattle.outcome.proofs.First.{part_refuses, part_passes, success_iff, zero_iff}
use Rattle.rule.specs.Refusals.{rule_table, rule_refusal}
use Rattle.rule.specs.Formula.{formula_of}
use Rattle.rule_grammar.specs.Text.{text}
use Rattle.rule_printer.proofs.Size.{text_size}
use Rattle.call_write_rule.specs.Write.{write_table, Wrote}
use Rattle.call_write_rule.proofs.Answer.{front_piece}
use Rattle.listing.specs.Text.{newline, refused_line}
use Rattle.text_call.specs.Printed.{line_of, printed_text}

module _ (rule : List ℕ) (bytes : (i : ℕ) → get_or rule i 0 < 256) where
  abbrev whole_text : List ℕ
  whole_text = text (formula_of rule)

  -- the last row, of an output of so many bytes
  abbrev last : ℕ → List Row
  last room = refuse 66 (whole (ltb room (length whole_text))) ∷ []

  -- The rows of the rule decide: past them its text has at most 532 bytes, so row 66 is not met.
  never_short : (room : ℕ) → 532 ≤ room → first (write_table rule room) ≡ rule_refusal rule
  unfolding write_table rule_table first
  never_short room h = turn (eqb (rule_refusal rule).number 0) refl
    where
      turn : (b : Bool) → eqb (rule_refusal rule).number 0 ≡ b → first (rule_table rule ++ last room) ≡ rule_refusal rule
      turn false e = sym (part_refuses (rule_table rule) (last room) refl (eqb-false (rule_refusal rule).number 0 e))
      turn true e =
          let z = eqb-true (rule_refusal rule).number 0 e in
          let size = text_size rule z bytes in
          let fits : first (last room) ≡ success = rw (le-ltb room (length whole_text) (omega arith)) in
          let accepted = (success_iff (rule_table rule) tt).1 ((zero_iff (rule_table rule) tt).0 z) in
          sym (part_passes (rule_table rule) (last room) tt refl z (accepted ∙ sym fits))

  module _ {lent new : List ℕ} {r : Written} (h : 532 ≤ length lent) (wrote : Wrote rule lent r new) where
    pub same : r.outcome ≡ rule_refusal rule
    same = wrote.outcome ∙ never_short (length lent) h

    pub refused_printed : ¬ (r.outcome.number ≡ 0) → refused_line r.outcome ≡ printed_text rule
    unfolding printed_text
    refused_printed k =
        let e : refused_line r.outcome ≡ line_of rule r.outcome = rw (ne_eqb r.outcome.number 0 k) in
        e ∙ ap (line_of rule) same

    module _ (z : r.outcome.number ≡ 0) where
      taken : take r.written new ≡ whole_text
      taken = front_piece wrote.front ∙ ap (λ b. cond b whole_text []) (eq-eqb r.outcome.number 0 z)

      pub line_printed : take r.written new ++ newline ≡ printed_text rule
      unfolding printed_text
      line_printed =
          let e : whole_text ++ newline ≡ line_of rule r.outcome = rw (eq-eqb r.outcome.number 0 z) in
          ap (λ s. s ++ newline) taken ∙ e ∙ ap (line_of rule) same

      pub line_room : (out : List ℕ) → 533 ≤ length out → Room 0 (take r.written new ++ newline) out
      line_room out k =
          let size = text_size rule (ap (λ o. o.number) (sym same) ∙ z) bytes in
          record { fits = omega (arith, length-append (take r.written new) newline, ap length taken) }
