-- Every rule that is written for a formula has its operands before their node, left first.
use mathlib.Core.Path.{◌≡◌, ap}
use mathlib.Core.Logic.{by_cases}
use mathlib.Core.List.{List}
use Prim.Native.Nat.{ℕ, suc, ◌+◌, ◌-◌, ◌≤◌, ◌<◌}
use native.Mathlib.Decide.{dec_lt}
use native.Mathlib.Omega.{arith}
use Rattle.tctl.specs.Kind.{some_run, all_runs}
use Rattle.tctl.specs.Formula.{Formula, not}
use Rattle.rule_grammar.specs.Machine.{Join, conj, disj, until, join}
use Rattle.rule.specs.Bytes.{node_count, node_words}
use Rattle.rule.specs.Formula.{formula_at}
use Rattle.rule.specs.declared.NodeWords.{NodeWords}
use Rattle.rule_bytes.specs.RuleBytes.{nodes, node_bytes, nodes_from, rule_bytes}
use Rattle.rule_bytes.specs.JoinNode.{operation_of}
use Rattle.rule_bytes.proofs.Sits.{Sits, sits_first, sits_second, node_sits}
use Rattle.rule_bytes.proofs.Tree.{some_nodes, join_nodes, formula_induction, nodes_length, stands}
use Rattle.rule_bytes.proofs.Tree.{count_written, sits_written}
use Rattle.rule_bytes.proofs.WrittenAccepted.{sits_left, sits_right, sits_node}
use Rattle.rule_order.specs.LeftFirst.{LeftFirst}

-- the order at node t, which has these words
record Ordered (s : List ℕ) (t : ℕ) (w : NodeWords) : Type 0 where
  one : w.operation ≡ 2 → w.a + 1 ≡ t
  two : 3 ≤ w.operation → (w.b + 1 ≡ t) × (w.a + 1 + nodes (formula_at s w.b) ≡ t)

-- the words of the node t, which is node n
at_node : (s : List ℕ) {w : NodeWords} (t n : ℕ) → t ≡ n → node_words s n ≡ w → Ordered s n w → Ordered s t (node_words s t)
at_node s t n e h k = rw (e, h) k

join_two : (j : Join) → 3 ≤ operation_of j
join_two conj = omega arith
join_two disj = omega arith
join_two (until some_run s c) = omega arith
join_two (until all_runs s c) = omega arith

-- the nodes of f are in order wherever they stand
abbrev AllOrdered : Formula → Type 0
AllOrdered f =
    (s : List ℕ) (n : ℕ) → Sits s n (nodes_from n f) → (t : ℕ) → n ≤ t → t < n + nodes f → Ordered s t (node_words s t)

-- a node is the operand's, or the node over it
not_ordered : (f : Formula) → AllOrdered f → AllOrdered (not f)
unfolding nodes_from
not_ordered f p s n h t l m =
    let some = some_nodes f in
    let a = n + nodes f - 1 in
    let own = node_bytes 2 0 a 0 0 in
    by_cases (dec_lt t (n + nodes f)) (p s n (sits_first (nodes_from n f) own h) t l) λ k.
    at_node s t (n + nodes f) (omega arith)
    (node_sits 2 0 a 0 0 (sits_second (nodes f) (nodes_from n f) own (nodes_length f n) h)) (omega arith)

-- a node is one of the first operand's or of the second's, or the node over both; the second operand's formula is g
join_ordered : (j : Join) (f g : Formula) → AllOrdered f → AllOrdered g → AllOrdered (join j f g)
join_ordered j f g p q s n h t l m =
    let size = join_nodes j f g in
    let some₁ = some_nodes f in
    let some₂ = some_nodes g in
    let two = join_two j in
    let mid = n + nodes f in
    let last = mid + nodes g in
    let second = sits_right s n j f g h in
    by_cases (dec_lt t mid) (p s n (sits_left s n j f g h) t l) λ a.
    by_cases (dec_lt t last) (q s mid second t (omega arith)) λ b.
    let at_b = ap nodes (stands g s mid second (suc (last - 1)) (omega arith)) in
    at_node s t last (omega arith) (sits_node s n j f g h) (omega arith)

all_ordered : (f : Formula) → AllOrdered f
unfolding nodes_from
all_ordered =
    formula_induction AllOrdered
    (λ s n h t l m. at_node s t n (omega arith) (node_sits 0 0 0 0 0 h) (omega arith))
    (λ i s n h t l m. at_node s t n (omega arith) (node_sits 1 0 i 0 0 h) (omega arith))
    not_ordered join_ordered

rule_ordered :
    (f : Formula) (t : ℕ) → t < node_count (rule_bytes f) → Ordered (rule_bytes f) t (node_words (rule_bytes f) t)
rule_ordered f t l =
    let count = count_written f in
    all_ordered f (rule_bytes f) 0 (sits_written f) t (omega arith) (omega arith)

pub left_first_written : (f : Formula) → LeftFirst (rule_bytes f)
left_first_written f = record { one = λ t l. (rule_ordered f t l).one; two = λ t l. (rule_ordered f t l).two }
