-- A leaf's text; or the opening and the first operand, and with a second one the sign, that operand and a bracket. The
-- node number falls at each call.
use mathlib.Core.Path.{◌≡◌, sym}
use mathlib.Core.List.{List, [], ◌∷◌, ◌++◌}
use Prim.Native.Nat.{ℕ, ◌≤◌, ◌<◌}
use native.Mathlib.Omega.{arith}
use Rattle.append.specs.Piece.{Room, Appended}
use Rattle.append.proofs.Append.{appended_text, appended_both, room_text, room_first, room_second}
use Rattle.rule.specs.Bytes.{node_count, node_words}
use Rattle.rule.specs.Refusals.{rule_refusal}
use Rattle.rule.specs.Formula.{formula_at}
use Rattle.rule.specs.declared.NodeWords.{NodeWords}
use Rattle.rule.proofs.Accepted.{accepted}
use Rattle.rule.proofs.Read.{ReadNode, a_lower, b_lower}
use Rattle.rule_grammar.specs.Text.{text}
use Rattle.rule_printer.specs.Parts.{opening_text}
use Rattle.rule_printer.proofs.NodeText.{rest_text, text_leaf, text_not, text_joined, text_begins}
use Rattle.rule_printer.proofs.+print_node.Goals as goal

-- the text of node t of a rule
abbrev text_of : List ℕ → ℕ → List ℕ
text_of s t = text (formula_at s t)

-- what was read is node t
node :
    (s : List ℕ) (t : ℕ) {w : NodeWords} {at : ℕ} {out : List ℕ} →
    ((rule_refusal s).number ≡ 0) × (t < node_count s) × Room at (text_of s t) out → w ≡ node_words s t → ReadNode s t w
node s t p e = record { accepted = p.0; low = p.1; read = e }

-- a lower node may be printed where there is room
lower :
    (s : List ℕ) (t : ℕ) {m v at i : ℕ} {out old : List ℕ} → t ≡ m →
    ((rule_refusal s).number ≡ 0) × (t < node_count s) × Room i (text_of s t) old → v < t → Room at (text_of s v) out →
    (v < m) × (((rule_refusal s).number ≡ 0) × (v < node_count s) × Room at (text_of s v) out)
lower s t e p h room = (omega arith, (p.0, omega (arith, h, p.1), room))

module _
    (s : List ℕ)
    (t : ℕ)
    {w : NodeWords}
    (read : ReadNode s t w)
    {at : ℕ}
    {out : List ℕ}
    (room : Room at (text_of s t) out) where
  -- the room for the opening and the first operand
  begin_room : 2 ≤ w.operation → Room at (opening_text w.operation ++ text_of s w.a) out
  begin_room h =
      let b = text_begins read h in
      room_first _ b.0 (room_text b.1 room)

  -- and behind them, wherever they were put, that for the rest
  rest_room :
      2 < w.operation → {mid : ℕ} {new : List ℕ} →
      Appended at (opening_text w.operation ++ text_of s w.a) mid out new → Room mid (rest_text read) new
  rest_room h done = room_second _ done (room_text (text_joined read h) room)

pub node_at-node-requires : goal.node_at-node-requires
node_at-node-requires t c = omega (arith, (accepted _ c.requires.0).shape.whole, c.requires.1)

pub put_leaf-requires : goal.put_leaf-requires
put_leaf-requires t c =
    room_text (text_leaf (node c.args.rule.now c.args.t c.requires c.node_at-node.ensures.0) c.if-node-lt-NOT.true)
    c.requires.2

pub returns-then-node-lt-NOT : goal.returns-then-node-lt-NOT
returns-then-node-lt-NOT t c =
    let read = node c.args.rule.now c.args.t c.requires c.node_at-node.ensures.0 in
    appended_text (sym (text_leaf read c.if-node-lt-NOT.true)) c.put_leaf.ensures

pub put_opening-opened-requires : goal.put_opening-opened-requires
put_opening-opened-requires t c =
    let read = node c.args.rule.now c.args.t c.requires c.node_at-node.ensures.0 in
    room_first _ _ (begin_room c.args.rule.now c.args.t read c.requires.2 c.if-node-lt-NOT.false)

pub print_node-first-requires : goal.print_node-first-requires
print_node-first-requires t c =
    let s = c.args.rule.now in
    let read = node s c.args.t c.requires c.node_at-node.ensures.0 in
    lower s c.args.t c.decreases c.requires (a_lower read c.if-node-lt-NOT.false)
    (room_second _ c.put_opening-opened.ensures (begin_room s c.args.t read c.requires.2 c.if-node-lt-NOT.false))

pub returns-then-node-eq-NOT : goal.returns-then-node-eq-NOT
returns-then-node-eq-NOT t c =
    let read = node c.args.rule.now c.args.t c.requires c.node_at-node.ensures.0 in
    appended_text (sym (text_not read c.if-node-eq-NOT.true))
    (appended_both c.put_opening-opened.ensures c.print_node-first.ensures)

pub put_between-signed-requires : goal.put_between-signed-requires
put_between-signed-requires t c =
    let s = c.args.rule.now in
    let read = node s c.args.t c.requires c.node_at-node.ensures.0 in
    let done = appended_both c.put_opening-opened.ensures c.print_node-first.ensures in
    room_first _ _ (room_first _ (41 ∷ []) (rest_room s c.args.t read c.requires.2 (omega arith) done))

pub print_node-second-requires : goal.print_node-second-requires
print_node-second-requires t c =
    let s = c.args.rule.now in
    let read = node s c.args.t c.requires c.node_at-node.ensures.0 in
    let done = appended_both c.put_opening-opened.ensures c.print_node-first.ensures in
    lower s c.args.t c.decreases c.requires (b_lower read (omega arith))
    (room_second _ c.put_between-signed.ensures
    (room_first _ (41 ∷ []) (rest_room s c.args.t read c.requires.2 (omega arith) done)))

pub put-requires : goal.put-requires
put-requires t c =
    let s = c.args.rule.now in
    let read = node s c.args.t c.requires c.node_at-node.ensures.0 in
    let done = appended_both c.put_opening-opened.ensures c.print_node-first.ensures in
    room_second (41 ∷ []) (appended_both c.put_between-signed.ensures c.print_node-second.ensures)
    (rest_room s c.args.t read c.requires.2 (omega arith) done)

pub returns : goal.returns
returns t c =
    let read = node c.args.rule.now c.args.t c.requires c.node_at-node.ensures.0 in
    let done = appended_both c.put_opening-opened.ensures c.print_node-first.ensures in
    let rest = appended_both c.put_between-signed.ensures c.print_node-second.ensures in
    appended_text (sym (text_joined read (omega arith))) (appended_both done (appended_both rest c.put.ensures))
