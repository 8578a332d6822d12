-- The operands' rows, then the node's own; the node number falls at each call.
use mathlib.Core.Path.{◌≡◌, refl, sym, ap, ◌∙◌}
use mathlib.Core.Logic.{◌⊎◌, inl, inr}
use mathlib.Core.Bool.{Bool}
use mathlib.Core.List.{List}
use Prim.Native.Nat.{ℕ, ◌≤◌, ◌<◌}
use native.Mathlib.Omega.{arith}
use borrow.Author.Rules.{rules}
use Rattle.rule.specs.Bytes.{node_words}
use Rattle.rule.specs.Refusals.{minutely}
use Rattle.rule.specs.declared.NodeWords.{NodeWords}
use Rattle.rule.proofs.Accepted.{accepted}
use Rattle.rule.specs.declared.operation.Operation.{Operation}
use Rattle.rule.specs.declared.operation.Operation.TheVariants.{True, Label, And, Or, SomeUntil, AllUntil}
use Rattle.rule.specs.Operations.{byte_of}
use Rattle.rule.proofs.Read.{known, a_lower, b_lower}
use Rattle.nodes.specs.Right.{Workable, AcceptedNode}
use Rattle.settle.proofs.Begun.{Begun, operand_asks, none_below, one_below, both_below, own_asks, own_settled}
use Rattle.settle.proofs.Tree.{Below}
use Rattle.settle.proofs.+settle.Goals.{in-True, in-Not, in-And}
use Rattle.settle.proofs.+settle.Goals as goal

-- what was read is node t
begun :
    {counting : Bool} {chart : List ℕ} {n m : ℕ} {rule : List ℕ} {t : ℕ} {w : NodeWords} {marks numbers : List ℕ} →
    Workable counting (minutely counting rule) chart n m t marks numbers × AcceptedNode counting rule t →
    w ≡ node_words rule t → Begun counting chart n m rule t w marks numbers
begun p e =
    record { lent = p.0; asked = p.1; node = record { accepted = p.1.unrefused; low = p.1.inside; read = e } }

pub node_at-node-requires : goal.node_at-node-requires
node_at-node-requires t c = let p = c.requires.1 in omega (arith, (accepted _ p.unrefused).shape.whole, p.inside)

-- the bytes of the operations without an operand, and of those with two
leaf : {o : Operation} {byte : ℕ} → byte_of o ≡ byte → (o ≡ True) ⊎ (o ≡ Label) → byte < 2
leaf e (inl f) = omega (arith, sym e ∙ ap byte_of f)
leaf e (inr f) = omega (arith, sym e ∙ ap byte_of f)

joined :
    {o : Operation} {byte : ℕ} → byte_of o ≡ byte →
    (o ≡ And) ⊎ ((o ≡ Or) ⊎ ((o ≡ SomeUntil) ⊎ (o ≡ AllUntil))) → 3 ≤ byte
joined e (inl f) = omega (arith, sym e ∙ ap byte_of f)
joined e (inr (inl f)) = omega (arith, sym e ∙ ap byte_of f)
joined e (inr (inr (inl f))) = omega (arith, sym e ∙ ap byte_of f)
joined e (inr (inr (inr f))) = omega (arith, sym e ∙ ap byte_of f)

pub known_operation-requires : goal.known_operation-requires
known_operation-requires t c = known (begun c.requires c.node_at-node.ensures.0).node

pub settle-requires : goal.settle-requires
settle-requires t c =
    let b = begun c.requires c.node_at-node.ensures.0 in
    let low = a_lower b.node (omega (arith, sym c.in-Not.ensures)) in
    (omega (arith, low, c.decreases), operand_asks b low refl refl)

pub settle-requires-in-And : goal.settle-requires-in-And
settle-requires-in-And t c =
    let b = begun c.requires c.node_at-node.ensures.0 in
    let low = a_lower b.node (omega (arith, joined c.known_operation.ensures c.in-And.is)) in
    (omega (arith, low, c.decreases), operand_asks b low refl refl)

pub settle-requires-in-And-2 : goal.settle-requires-in-And-2
settle-requires-in-And-2 t c =
    let b = begun c.requires c.node_at-node.ensures.0 in
    let low = b_lower b.node (joined c.known_operation.ensures c.in-And.is) in
    (omega (arith, low, c.decreases), operand_asks b low (search rules) (search rules))

pub settle_node-requires : goal.settle_node-requires
settle_node-requires t c =
    let b = begun c.requires c.node_at-node.ensures.0 in
    let e = c.known_operation.ensures in
    let rows : Below c.args.chart.bytes.now c.args.chart.states c.args.rule.now c.args.t c.args.marks.now
    c.match-known_operation.marks =
    elim c.match-known_operation.branch [
      | in-True w ↦ rw w.marks-is (none_below b (leaf e w.in-True.is))
      | in-Not w ↦ rw w.marks-is (one_below b (sym w.in-Not.ensures) w.settle.ensures)
      | in-And w ↦
          rw w.marks-is (both_below b (joined e w.in-And.is) w.settle-in-And.ensures w.settle-in-And-2.ensures)
    ] in
    let asks = own_asks b rows {vs = c.match-known_operation.numbers} c.match-known_operation.auto.numbers in
    record { workable = asks.0; operands_right = asks.1 }

pub returns : goal.returns
returns t c =
    let b = begun c.requires c.node_at-node.ensures.0 in
    let e = c.known_operation.ensures in
    let rows : Below c.args.chart.bytes.now c.args.chart.states c.args.rule.now c.args.t c.args.marks.now
    c.match-known_operation.marks =
    elim c.match-known_operation.branch [
      | in-True w ↦ rw w.marks-is (none_below b (leaf e w.in-True.is))
      | in-Not w ↦ rw w.marks-is (one_below b (sym w.in-Not.ensures) w.settle.ensures)
      | in-And w ↦
          rw w.marks-is (both_below b (joined e w.in-And.is) w.settle-in-And.ensures w.settle-in-And-2.ensures)
    ] in
    own_settled b rows c.settle_node.ensures
