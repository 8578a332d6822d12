-- Node t was read: what the calls for its operands and for its own row ask, and what they leave.
use mathlib.Core.Path.{◌≡◌, ap, subst}
use mathlib.Core.Bool.{Bool}
use mathlib.Core.List.{List}
use Prim.Native.Nat.{ℕ, ◌≤◌, ◌<◌}
use native.Mathlib.Omega.{arith}
use lib.ListN.{length}
use Rattle.model.proofs.Marks.{row_below}
use Rattle.model.specs.Decide.{holds}
use Rattle.chart.specs.Bytes.{chart_of}
use Rattle.rule.specs.Bytes.{node_words}
use Rattle.rule.specs.Refusals.{minutely}
use Rattle.rule.specs.Formula.{formula_at}
use Rattle.rule.specs.declared.NodeWords.{NodeWords}
use Rattle.rule.proofs.Accepted.{AcceptedRule, accepted}
use Rattle.rule.proofs.Read as read
use Rattle.fill.specs.Written.{RowWritten}
use Rattle.nodes.specs.Right.{Workable, AcceptedNode, OperandsRight}
use Rattle.settle.specs.Settled.{Settled}
use Rattle.settle.proofs.Tree.{Below, below_none, below_left, below_both, operands, settled}

pub record Begun
    (counting : Bool)
    (chart : List ℕ)
    (n m : ℕ)
    (rule : List ℕ)
    (t : ℕ)
    (w : NodeWords)
    (marks numbers : List ℕ) : Type 0 where
  pub lent : Workable counting (minutely counting rule) chart n m t marks numbers
  pub asked : AcceptedNode counting rule t
  pub node : read.ReadNode rule t w

module _ {counting : Bool} {chart : List ℕ} {n m : ℕ} {rule : List ℕ} {t : ℕ} {w : NodeWords} {marks numbers : List ℕ}
    (b : Begun counting chart n m rule t w marks numbers) where
  passed : AcceptedRule rule
  passed = accepted rule b.node.accepted

  operation_is : w.operation ≡ (node_words rule t).operation
  operation_is = ap (λ (x : NodeWords). x.operation) b.node.read

  -- a lower node, on marks and numbers as long as those lent
  pub operand_asks :
      {u : ℕ} {mid vs : List ℕ} → u < t → length mid ≡ length marks → length vs ≡ length numbers →
      Workable counting (minutely counting rule) chart n m u mid vs × AcceptedNode counting rule u
  operand_asks h e f = (
    record {
      passed = b.lent.passed;
      table = omega (arith, row_below n h, b.lent.table);
      room = omega (arith, f, b.lent.room);
      accepted = b.lent.accepted;
    },
    record { unrefused = b.node.accepted; inside = omega (arith, b.node.low); short = b.asked.short },
  )

  -- ── The operands are settled: none, one or two ──

  pub none_below : w.operation < 2 → Below chart n rule t marks marks
  none_below h = below_none (omega (arith, operation_is)) marks

  pub one_below :
      {mid : List ℕ} → w.operation ≡ 2 → Settled chart n rule w.a marks mid → Below chart n rule t marks mid
  one_below {mid} h x =
      below_left passed b.node.low (omega (arith, operation_is))
      (subst (λ v. Settled chart n rule v.a marks mid) b.node.read x)

  pub both_below :
      {one mid : List ℕ} → 3 ≤ w.operation →
      Settled chart n rule w.a marks one → Settled chart n rule w.b one mid → Below chart n rule t marks mid
  both_below {one} {mid} h x y =
      below_both passed b.node.low (omega (arith, operation_is))
      (subst (λ v. Settled chart n rule v.a marks one) b.node.read x)
      (subst (λ v. Settled chart n rule v.b one mid) b.node.read y)

  -- ── The node's own row, after them ──

  module _ {mid : List ℕ} (x : Below chart n rule t marks mid) where
    pub own_asks :
        {vs : List ℕ} → length vs ≡ length numbers →
        (Workable counting (minutely counting rule) chart n m t mid vs × AcceptedNode counting rule t) × OperandsRight chart n rule t mid
    own_asks f = (
      (
        record {
          passed = b.lent.passed;
          table = omega (arith, b.lent.table, x.size);
          room = omega (arith, f, b.lent.room);
          accepted = b.lent.accepted;
        },
        b.asked,
      ),
      operands passed b.node.low x,
    )

    pub own_settled :
        {new : List ℕ} → RowWritten n t (holds (chart_of chart) (formula_at rule t)) mid new → Settled chart n rule t marks new
    own_settled = settled passed b.node.low x
