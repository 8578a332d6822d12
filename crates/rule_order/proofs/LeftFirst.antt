-- A rule that passes checks 10 to 16, with its operands before their node, left first, is byte for byte the rule that is
-- written for its formula. By induction on the node's number, the nodes of each node's formula stand as they are written,
-- the node being the last of them: its own bytes are those of its words, and the nodes of its operands stand right before
-- it. The formula of the rule's last node has as many nodes as the rule, so they are all of them.
use mathlib.Core.Path.{◌≡◌, refl, sym, ap, subst, ◌∙◌}
use mathlib.Core.Bool.{false}
use mathlib.Core.List.{List}
use Prim.Native.Nat.{ℕ, zero, suc, ◌+◌, ◌-◌, ◌*◌, ◌≤◌, ◌<◌}
use native.Mathlib.Omega.{arith}
use lib.ListN.{length, get_or}
use lib.Dec.{eqb}
use borrow.Author.Tests.{eqb-true, eqb-false}
use Rattle.base.proofs.Truth.{cond_elim}
use Rattle.outcome.proofs.Whole.{none_equal}
use Rattle.outcome.proofs.First.{unmet_at}
use Rattle.tctl.specs.Formula.{Formula, Bound, not}
use Rattle.head.specs.Head.{version, stated_length}
use Rattle.rule.specs.Bytes.{node_count, node_words}
use Rattle.rule.specs.Form.{form_of}
use Rattle.rule.specs.Formula.{bound_of, formula_at, formula_of}
use Rattle.rule.specs.Refusals.{malformed, rule_table, rule_refusal}
use Rattle.rule.specs.declared.NodeWords.{NodeWords}
use Rattle.rule.proofs.FormOf.{form_of_lem}
use Rattle.rule.proofs.Accepted.{AcceptedRule, accepted, known, lower_a, lower_b}
use Rattle.rule.proofs.Tree.{formula_at_lem}
use Rattle.rule_bytes.specs.RuleBytes.{nodes, node_bytes, kind_of, limit_of, joined, nodes_from, rule_bytes}
use Rattle.rule_bytes.proofs.Tree.{nodes_length}
use Rattle.rule_bytes.proofs.WrittenAccepted.{written_length}
use Rattle.rule_printer.proofs.NodeCount.{nodes_counted}
use Rattle.rule_order.specs.LeftFirst.{LeftFirst}
use Rattle.rule_order.proofs.Pieces.{At, at_both, at_whole, at_head, at_node}
use Rattle.rule_order.proofs.Fields.{no_a, no_b, no_c, no_kind, until_kind, limit_bound}

-- the nodes of f stand in s as they are written, t being the last of them
abbrev Written : List ℕ → ℕ → Formula → Type 0
Written s t f = (n : ℕ) → n + nodes f ≡ t + 1 → At s (7 + 8 * n) (nodes_from n f)

-- the same of f and g, joined by a node of this operation, kind and c
abbrev JoinWritten : List ℕ → ℕ → Formula → Formula → ℕ → ℕ → ℕ → Type 0
JoinWritten s t f g op kind c =
    (n : ℕ) → n + (nodes f + nodes g + 1) ≡ t + 1 →
    At s (7 + 8 * n) (joined op kind c n f g (nodes_from n f) (nodes_from (n + nodes f) g))

module _ {s : List ℕ} (acc : AcceptedRule s) (bytes : (i : ℕ) → get_or s i 0 < 256) (order : LeftFirst s) where
  -- node t, over lower nodes that are written
  module _ (t : ℕ) (l : t < node_count s) (lower : (u : ℕ) → u < t → Written s u (formula_at s u)) where
    abbrev w : NodeWords
    w = node_words s t

    abbrev f : Formula
    f = formula_at s w.a

    abbrev g : Formula
    g = formula_at s w.b

    formed : malformed w ≡ false
    formed = acc.formed t l

    -- a node that uses a at most
    plain_node :
        {op a : ℕ} → w.operation ≡ op → op ≤ 2 → w.a ≡ a → (n : ℕ) → n ≡ t → At s (7 + 8 * n) (node_bytes op 0 a 0 0)
    plain_node o h a n e =
        let form = (form_of_lem w.operation).2 (omega arith) in
        rw e
        (at_node bytes t o (no_kind w formed (omega arith)) a (no_b w formed (omega arith)) (no_c w formed (omega arith)))

    -- the operand is the node before it, so that its nodes end there
    not_written : w.operation ≡ 2 → Written s t (not f)
    unfolding nodes_from
    not_written o n e =
        let place = order.one t l o in
        at_both (omega (arith, nodes_length f n)) (lower w.a (omega arith) n (omega arith))
        (plain_node o (omega arith) (omega arith) t refl)

    module _ (two : 3 ≤ w.operation) where
      -- the nodes of the second operand end right before the node, and those of the first right before them
      join_written :
          {op kind c : ℕ} → w.operation ≡ op → w.kind ≡ kind → w.c ≡ c → JoinWritten s t f g op kind c
      join_written o k c n e =
          let place = order.two t l two in
          let m = n + nodes f in
          at_both (omega (arith, nodes_length f n)) (lower w.a (lower_a acc t l (omega arith)) n (omega arith)) (
          at_both (omega (arith, nodes_length g m)) (lower w.b (lower_b acc t l two) m (omega arith))
          (at_node bytes t o k (omega arith) (omega arith) c))

      -- and, or
      pair_written : {op : ℕ} → w.operation ≡ op → form_of op ≡ 3 → JoinWritten s t f g op 0 0
      pair_written o h =
          let form = ap form_of o ∙ h in
          join_written o (no_kind w formed (omega arith)) (no_c w formed (omega arith))

      abbrev bound : Bound
      bound = bound_of w.kind w.c

      until_written : {op : ℕ} → w.operation ≡ op → form_of op ≡ 4 → JoinWritten s t f g op (kind_of bound) (limit_of bound)
      until_written o h = join_written o (until_kind w formed (ap form_of o ∙ h)) (limit_bound w.kind w.c)

    -- whichever its operation, for its formula is by the same cases
    node_written : Written s t (formula_at s t)
    unfolding nodes_from form_of
    node_written =
        let op = w.operation in
        let P : Formula → Type 0 = Written s t in
        subst P (sym (formula_at_lem acc t l)) (
        cond_elim P (eqb op 0)
        (λ e n i. let z = eqb-true op 0 e in plain_node z (omega arith) (no_a w formed (ap form_of z)) n (omega arith)) λ h.
        cond_elim P (eqb op 1) (λ e n i. plain_node (eqb-true op 1 e) (omega arith) refl n (omega arith)) λ i.
        cond_elim P (eqb op 2) (λ e. not_written (eqb-true op 2 e)) λ j.
        let two : 3 ≤ op = omega (arith, eqb-false op 0 h, eqb-false op 1 i, eqb-false op 2 j) in
        cond_elim P (eqb op 3) (λ e. pair_written two (eqb-true op 3 e) refl) λ h.
        cond_elim P (eqb op 4) (λ e. pair_written two (eqb-true op 4 e) refl) λ i.
        cond_elim P (eqb op 5) (λ e. until_written two (eqb-true op 5 e) refl) λ j.
        until_written two (omega (arith, known acc t l, eqb-false op 3 h, eqb-false op 4 i, eqb-false op 5 j)) refl)

  -- the nodes below d
  all_written : (d t : ℕ) → t < d → t < node_count s → Written s t (formula_at s t)
  all_written zero t h l = absurd (let z : ⊥ = omega arith in z)
  all_written (suc d) t h l = node_written t l λ u m. all_written d u (omega arith) (omega arith)

-- the head is the one that is written, by checks 11 to 13; behind it stand the nodes of the last node's formula
pub left_first :
    (s : List ℕ) → (rule_refusal s).number ≡ 0 → ((i : ℕ) → get_or s i 0 < 256) → LeftFirst s → rule_bytes (formula_of s) ≡ s
unfolding rule_bytes rule_table
left_first s e bytes order =
    let acc = accepted s e in
    let unmet = unmet_at (rule_table s) tt e in
    let stated = none_equal (stated_length s) (length s) (unmet 2) in
    let size = acc.shape.whole in
    let some = acc.shape.some_nodes in
    let count = nodes_counted acc in
    at_whole (omega (arith, written_length (formula_of s)))
    (at_both refl (at_head bytes (none_equal (version s) 1 (unmet 1)) (omega arith) (omega arith))
    (all_written acc bytes order (node_count s) (node_count s - 1) (omega arith) (omega arith) 0 (omega arith)))
