-- Each operation writes the row of its formula, by the laws of Settled.
use mathlib.Core.Path.{◌≡◌, sym, ap, ◌∙◌}
use mathlib.Core.Logic.{◌⊎◌, inl, inr}
use mathlib.Core.Bool.{Bool}
use mathlib.Core.List.{List}
use Prim.Native.Nat.{ℕ, ◌≤◌}
use native.Mathlib.Omega.{arith}
use Rattle.chart.proofs.Reading.{labels_inside}
use Rattle.rule.specs.Bytes.{node_words}
use Rattle.rule.specs.declared.operation.Operation.{Operation}
use Rattle.rule.specs.declared.operation.Operation.TheVariants.{SomeUntil, AllUntil}
use Rattle.rule.specs.Operations.{byte_of}
use Rattle.rule.specs.declared.NodeWords.{NodeWords}
use Rattle.rule.proofs.Accepted.{accepted}
use Rattle.rule.proofs.Read.{ReadNode, known, label_low, until_bound, a_lower, b_lower}
use Rattle.operands.specs.FromOperands.{OperandsBelow}
use Rattle.nodes.specs.Right.{AcceptedNode}
use Rattle.nodes.proofs.Workable.{workable_fewer, some_minutely, minutes_short}
use Rattle.nodes.proofs.Settled.{settled_always, settled_label, settled_not, settled_and, settled_or, settled_until}
use Rattle.nodes.proofs.settle_node.Goals as goal

module _ {counting : Bool} {rule : List ℕ} {t : ℕ} {w : NodeWords} (p : AcceptedNode counting rule t)
    (e : w ≡ node_words rule t) where
  -- what was read is node t
  node : ReadNode rule t w
  node = record { accepted = p.unrefused; low = p.inside; read = e }

  -- two operands: their rows are lower
  low : 3 ≤ w.operation → OperandsBelow t w
  low two = record { left = a_lower node (omega (arith, two)); right = b_lower node two }

-- the operation's byte
is : {o p : Operation} {byte : ℕ} → byte_of o ≡ byte → o ≡ p → byte ≡ byte_of p
is e f = sym e ∙ ap byte_of f

-- the bytes of the untils are 5 and 6
an_until : {o : Operation} {byte : ℕ} → byte_of o ≡ byte → (o ≡ SomeUntil) ⊎ (o ≡ AllUntil) → 5 ≤ byte
an_until e (inl f) = omega (arith, is e f)
an_until e (inr f) = omega (arith, is e f)

pub known_operation-requires : goal.known_operation-requires
known_operation-requires c = known (node c.requires.workable.1 c.node_at-node.ensures.0)

pub node_at-node-requires : goal.node_at-node-requires
node_at-node-requires c =
    let w = c.requires.workable.1 in
    omega (arith, (accepted _ w.unrefused).shape.whole, w.inside)

pub returns-in-True : goal.returns-in-True
returns-in-True c =
    let p = c.requires in
    settled_always p.workable.0.passed (node p.workable.1 c.node_at-node.ensures.0) p.operands_right
    (is c.known_operation.ensures c.in-True.is)
    c.fill.ensures

pub fill_label-requires : goal.fill_label-requires
fill_label-requires c =
    let p = c.requires.workable in
    let low = label_low (node p.1 c.node_at-node.ensures.0) (is c.known_operation.ensures c.in-Label.is) in
    (labels_inside p.0.passed, low, p.0.table)

pub returns-in-Label : goal.returns-in-Label
returns-in-Label c =
    let p = c.requires in
    settled_label p.workable.0.passed (node p.workable.1 c.node_at-node.ensures.0) p.operands_right
    (is c.known_operation.ensures c.in-Label.is)
    c.fill_label.ensures

pub fill-requires-in-Not : goal.fill-requires-in-Not
fill-requires-in-Not c =
    let p = c.requires.workable in
    let left = a_lower (node p.1 c.node_at-node.ensures.0) (omega (arith, is c.known_operation.ensures c.in-Not.is)) in
    (p.0.table, omega (arith, left), omega (arith, left))

pub returns-in-Not : goal.returns-in-Not
returns-in-Not c =
    let p = c.requires in
    settled_not p.workable.0.passed (node p.workable.1 c.node_at-node.ensures.0) p.operands_right
    (is c.known_operation.ensures c.in-Not.is)
    c.fill-in-Not.ensures

pub fill-requires-in-And : goal.fill-requires-in-And
fill-requires-in-And c =
    let p = c.requires.workable in
    let both = low p.1 c.node_at-node.ensures.0 (omega (arith, is c.known_operation.ensures c.in-And.is)) in
    (p.0.table, omega (arith, both.left), omega (arith, both.right))

pub returns-in-And : goal.returns-in-And
returns-in-And c =
    let p = c.requires in
    settled_and p.workable.0.passed (node p.workable.1 c.node_at-node.ensures.0) p.operands_right
    (is c.known_operation.ensures c.in-And.is)
    c.fill-in-And.ensures

pub fill-requires-in-Or : goal.fill-requires-in-Or
fill-requires-in-Or c =
    let p = c.requires.workable in
    let both = low p.1 c.node_at-node.ensures.0 (omega (arith, is c.known_operation.ensures c.in-Or.is)) in
    (p.0.table, omega (arith, both.left), omega (arith, both.right))

pub returns-in-Or : goal.returns-in-Or
returns-in-Or c =
    let p = c.requires in
    settled_or p.workable.0.passed (node p.workable.1 c.node_at-node.ensures.0) p.operands_right (is c.known_operation.ensures c.in-Or.is)
    c.fill-in-Or.ensures

pub settle_until-requires : goal.settle_until-requires
settle_until-requires c =
    let p = c.requires.workable in
    let above = an_until c.known_operation.ensures c.in-SomeUntil.is in
    let read = node p.1 c.node_at-node.ensures.0 in
    let kind = until_bound read above in (
      workable_fewer p.0 (some_minutely c.args.counting read),
      record {
        operands = low p.1 c.node_at-node.ensures.0 (omega (arith, above));
        least = above;
        greatest = known read;
        kind = (kind.0, kind.1);
        small = c.node_at-node.ensures.1.c;
        short = minutes_short c.args.counting read p.1 above;
      },
    )

pub returns-in-SomeUntil : goal.returns-in-SomeUntil
returns-in-SomeUntil c =
    let p = c.requires in
    let above = an_until c.known_operation.ensures c.in-SomeUntil.is in
    settled_until p.workable.0.passed (node p.workable.1 c.node_at-node.ensures.0) p.operands_right above
    c.settle_until.ensures
