-- A refusal is handed on. Past it the text is printed into a buffer that is long enough for any, and copied if it fits.
use mathlib.Core.Path.{◌≡◌, refl, sym, ap, ◌∙◌}
use mathlib.Core.List.{List}
use Prim.Native.Nat.{ℕ, ◌-◌, ◌≤◌, ◌<◌}
use native.Mathlib.Omega.{arith}
use lib.ListN.{length, get_or}
use Rattle.std.proofs.lemmas.Result.{err_from_is_err_and}
use Rattle.outcome.specs.declared.Outcome.{Outcome}
use Rattle.outcome.proofs.First.{fault_number}
use Rattle.append.specs.Piece.{Room, Appended, AtFront}
use Rattle.append.proofs.Append.{appended_text, room_text, at_front, at_front_counts}
use Rattle.rule.specs.Bytes.{node_count}
use Rattle.rule.specs.Shape.{Shape}
use Rattle.rule.specs.Refusals.{rule_refusal}
use Rattle.rule.specs.Formula.{formula_at, formula_of}
use Rattle.rule.proofs.Accepted.{accepted}
use Rattle.rule_grammar.specs.Text.{text}
use Rattle.rule_printer.proofs.Size.{text_size}
use Rattle.call_write_rule.proofs.Answer.{front_piece, refused, short, written}
use Rattle.call_write_rule.proofs.write.Goals as goal

-- past the test the rule is accepted
passed : (s : List ℕ) {o : Outcome} → o ≡ rule_refusal s → o.number ≡ 0 → (rule_refusal s).number ≡ 0
passed s e z = ap (λ o. o.number) (sym e) ∙ z

shape : (s : List ℕ) {o : Outcome} → o ≡ rule_refusal s → o.number ≡ 0 → Shape s (node_count s)
shape s e z = (accepted s (passed s e z)).shape

-- the text of the last node, by the count, is the rule's
same : (s : List ℕ) {k : ℕ} → k ≡ node_count s → text (formula_at s (k - 1)) ≡ text (formula_of s)
same s count = ap (λ k. text (formula_at s (k - 1))) count

-- a buffer of 532 bytes has room for it
room :
    (s : List ℕ) {o : Outcome} {k : ℕ} {old : List ℕ} → o ≡ rule_refusal s → o.number ≡ 0 →
    ((i : ℕ) → get_or s i 0 < 256) → k ≡ node_count s → 532 ≤ length old → Room 0 (text (formula_at s (k - 1))) old
room s e z bytes count l =
    record { fits = omega (arith, ap length (same s count), text_size s (passed s e z) bytes) }

front :
    (s : List ℕ) {o : Outcome} {k size : ℕ} {old new : List ℕ} → o ≡ rule_refusal s → o.number ≡ 0 →
    ((i : ℕ) → get_or s i 0 < 256) → k ≡ node_count s → 532 ≤ length old →
    Appended 0 (text (formula_at s (k - 1))) size old new → AtFront (text (formula_of s)) size old new
front s e z bytes count l h =
    at_front (room_text (same s count) (room s e z bytes count l)) (appended_text (same s count) h)

pub returns-in_err-rule_refusal : goal.returns-in_err-rule_refusal
returns-in_err-rule_refusal c =
    let p = err_from_is_err_and c.from_residual.result c.from_residual.ensures.1 in
    rw (p.1, p.2) (refused _ _ c.in_err-rule_refusal.ensures (fault_number _))

pub node_count-last-requires : goal.node_count-last-requires
node_count-last-requires c =
    let h = shape c.args.rule.now c.in_ok-rule_refusal.ensures refl in
    omega (arith, h.whole, h.some_nodes)

pub overflow_sub-last : goal.overflow_sub-last
overflow_sub-last c =
    omega (arith, (shape c.args.rule.now c.in_ok-rule_refusal.ensures refl).some_nodes)

pub print_node-size-requires : goal.print_node-size-requires
print_node-size-requires c =
    let s = c.args.rule.now in
    let told = c.in_ok-rule_refusal.ensures in
    let zero = refl in (
      passed s told zero,
      omega (arith, (shape s told zero).some_nodes),
      room s told zero (λ i. omega (arith, c.type_inv.rule i)) c.node_count-last.ensures.0 (omega arith),
    )

pub returns-then-output-size : goal.returns-then-output-size
returns-then-output-size c =
    let s = c.args.rule.now in
    let told = c.in_ok-rule_refusal.ensures in
    let zero = refl in
    let whole =
    front s told zero (λ i. omega (arith, c.type_inv.rule i)) c.node_count-last.ensures.0 (omega arith)
    c.print_node-size.ensures in
    short _ _ told zero (omega (arith, whole.end, c.if-output-size.true)) c.at.ensures

pub slice_bounds-text-end : goal.slice_bounds-text-end
slice_bounds-text-end c =
    let whole =
    front c.args.rule.now c.in_ok-rule_refusal.ensures refl (λ i. omega (arith, c.type_inv.rule i))
    c.node_count-last.ensures.0 (omega arith) c.print_node-size.ensures in
    (at_front_counts whole).0

pub slice_bounds-put_word-end : goal.slice_bounds-put_word-end
slice_bounds-put_word-end c =
    let whole =
    front c.args.rule.now c.in_ok-rule_refusal.ensures refl (λ i. omega (arith, c.type_inv.rule i))
    c.node_count-last.ensures.0 (omega arith) c.print_node-size.ensures in
    (at_front_counts whole).1

pub returns : goal.returns
returns c =
    let s = c.args.rule.now in
    let told = c.in_ok-rule_refusal.ensures in
    let zero = refl in
    let whole =
    front s told zero (λ i. omega (arith, c.type_inv.rule i)) c.node_count-last.ensures.0 (omega arith)
    c.print_node-size.ensures in
    let size = whole.end in
    written _ _ told zero (omega (arith, size, c.if-output-size.false)) refl
    (at_front (record { fits = omega (arith, size, c.if-output-size.false) }) (appended_text (front_piece whole) c.put_word.ensures))
