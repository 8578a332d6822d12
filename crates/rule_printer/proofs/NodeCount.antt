-- The formula of an accepted rule has as many nodes as the rule. The size of a node's formula is 1 and the sizes of its
-- operands. Summed over all nodes, every size but the last's stands on both sides, for every node but the last is an
-- operand exactly once; what is left is the last's, and a 1 for each node.
use mathlib.Core.Path.{◌≡◌, refl, ap, ◌∙◌}
use mathlib.Core.Bool.{Bool, true, false, cond}
use mathlib.Core.List.{List}
use Prim.Native.Nat.{ℕ, zero, suc, ◌+◌, ◌*◌, ◌-◌, ◌≤◌, ◌<◌}
use native.Mathlib.Nat.{add-mul, zero-mul, one-mul}
use native.Mathlib.Omega.{arith}
use lib.Dec.{eqb, leb}
use borrow.Author.Tests.{eqb-true, eqb-false, leb-true, le-leb}
use Rattle.base.specs.Sum.{sum}
use Rattle.base.proofs.Sum.{sum_same, sum_add, sum_zero, sum_one}
use Rattle.base.proofs.Truth.{cond_elim}
use Rattle.tctl.specs.Formula.{Formula}
use Rattle.rule.specs.Bytes.{node_count, node_words}
use Rattle.rule.specs.Formula.{operation, formula_at, formula_of}
use Rattle.rule.specs.Refusals.{names, uses_in, uses}
use Rattle.rule.specs.declared.NodeWords.{NodeWords}
use Rattle.rule.proofs.FormOf.{uses_by}
use Rattle.rule.proofs.Accepted.{AcceptedRule, lower_a, lower_b}
use Rattle.rule.proofs.Tree.{formula_at_lem}
use Rattle.rule_bytes.specs.RuleBytes.{nodes}

-- what each operand that there is adds
abbrev operands_add : ℕ → ℕ → ℕ → ℕ
operands_add op a b = cond (leb 2 op) a 0 + cond (leb 3 op) b 0

-- an operation's formula has a node, and those of its operands
nodes_operation :
    (op : ℕ) (w : NodeWords) (at : ℕ → Formula) →
    nodes (operation op w at) ≡ 1 + operands_add op (nodes (at w.a)) (nodes (at w.b))
nodes_operation op w at =
    cond_elim P (eqb op 0) (λ e. rw (eqb-true op 0 e)) λ h.
    cond_elim P (eqb op 1) (λ e. rw (eqb-true op 1 e)) λ i.
    cond_elim P (eqb op 2) (λ e. rw (eqb-true op 2 e) (omega arith)) λ j.
    let three : 3 ≤ op = omega (arith, eqb-false op 0 h, eqb-false op 1 i, eqb-false op 2 j) in
    let both : nodes (at w.a) + nodes (at w.b) + 1 ≡ sum_of =
    rw (le-leb 2 op (omega arith), le-leb 3 op three) (omega arith) in
    cond_elim P (eqb op 3) (λ _. both) λ _.
    cond_elim P (eqb op 4) (λ _. both) λ _.
    cond_elim P (eqb op 5) (λ _. both) λ _. both
  where
    sum_of : ℕ
    sum_of = 1 + operands_add op (nodes (at w.a)) (nodes (at w.b))

    P : Formula → Type 0
    P f = nodes f ≡ sum_of

-- the sum over those that are named is the term of the operand x, if it is used
names_sum :
    (used : Bool) (x : ℕ) (g : ℕ → ℕ) (m : ℕ) → (used ≡ true → x < m) →
    sum (λ u. names used x u * g u) m ≡ cond used (g x) 0
names_sum true x g m h = sum_one x g m (h refl)
names_sum false x g m h = sum_same (λ u. 0 * g u) (λ u. 0) m (λ u l. zero-mul (g u)) ∙ sum_zero m

module _ {s : List ℕ} (acc : AcceptedRule s) where
  abbrev k : ℕ
  k = node_count s

  -- how many nodes the formula of node t has
  abbrev size : ℕ → ℕ
  size t = nodes (formula_at s t)

  abbrev last : ℕ
  last = k - 1

  -- node t: itself, and its operands, each as often as it names them; they are lower than t, so not the last
  size_at : (t : ℕ) → t < k → size t ≡ 1 + sum (λ u. uses_in u (node_words s t) * size u) last
  size_at t l =
      let w = node_words s t in
      let op = w.operation in
      let x : ℕ → ℕ = λ u. names (leb 2 op) w.a u in
      let y : ℕ → ℕ = λ u. names (leb 3 op) w.b u in
      let a = names_sum (leb 2 op) w.a size last
      (λ e. let low = lower_a acc t l (leb-true 2 op e) in omega arith) in
      let b = names_sum (leb 3 op) w.b size last
      (λ e. let low = lower_b acc t l (leb-true 3 op e) in omega arith) in
      let terms = sum_same (λ u. uses_in u w * size u) (λ u. x u * size u + y u * size u) last
      (λ u i. ap (λ c. c * size u) (uses_by u w) ∙ add-mul (x u) (y u) (size u)) in
      let split = sum_add (λ u. x u * size u) (λ u. y u * size u) last in
      let own = ap nodes (formula_at_lem acc t l) ∙ nodes_operation op w (formula_at s) in
      omega (arith, own, terms, split, a, b)

  -- the sizes of the first j nodes together, by induction on j
  sizes : (j : ℕ) → j ≤ k → sum size j ≡ j + sum (λ u. uses s j u * size u) last
  unfolding sum uses
  sizes zero h =
      let none = sum_same (λ u. uses s 0 u * size u) (λ u. 0) last (λ u i. zero-mul (size u)) in
      omega (arith, none, sum_zero last)
  sizes (suc j) h =
      let before : ℕ → ℕ = λ u. uses s j u in
      let own : ℕ → ℕ = λ u. uses_in u (node_words s j) in
      let terms = sum_same (λ u. uses s (suc j) u * size u) (λ u. before u * size u + own u * size u) last
      (λ u i. add-mul (before u) (own u) (size u)) in
      let split = sum_add (λ u. before u * size u) (λ u. own u * size u) last in
      omega (arith, sizes j (omega arith), size_at j h, terms, split)

  -- "Every node but the last is an operand exactly once": the sum on the right is that of all sizes but the last
  pub nodes_counted : nodes (formula_of s) ≡ node_count s
  unfolding sum
  nodes_counted =
      let once = sum_same (λ u. uses s k u * size u) size last
      (λ u i. ap (λ c. c * size u) (acc.once u i) ∙ one-mul (size u)) in
      let e : k ≡ suc last = omega (arith, acc.shape.some_nodes) in
      let apart : sum size k ≡ sum size last + size last = ap (sum size) e in
      omega (arith, sizes k (omega arith), once, apart)
