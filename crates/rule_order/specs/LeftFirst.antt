-- "operands before their node, left first" (02, paper 5), of a rule's bytes: the nodes of the first operand, then those of
-- the second, then the node.
use Rattle.std.specs.Prelude.{◌≡◌, List, ℕ, ◌+◌, ◌≤◌, ◌<◌}
use Rattle.rule.specs.Bytes.{node_count, node_words}
use Rattle.rule.specs.Formula.{formula_at}
use Rattle.rule_bytes.specs.RuleBytes.{nodes}

pub record LeftFirst (s : List ℕ) : Type 0 where
  -- "2 not a": the operand is the node before it
  pub one : (t : ℕ) → t < node_count s → (node_words s t).operation ≡ 2 → (node_words s t).a + 1 ≡ t
  -- "3 a and b; 4 a or b; 5 E(a until b); 6 A(a until b)": the second operand is the node before it, the first the one
  -- before the second's nodes
  pub two :
      (t : ℕ) → t < node_count s → 3 ≤ (node_words s t).operation →
      ((node_words s t).b + 1 ≡ t) × ((node_words s t).a + 1 + nodes (formula_at s (node_words s t).b) ≡ t)
