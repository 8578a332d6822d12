-- Descending the tree of a rule: how often settling a node settles another.
use Rattle.std.specs.Prelude.{cond, List, ℕ, zero, suc, ◌+◌, eqb, leb}
use Rattle.rule.specs.Bytes.{node_words}

-- "each node is settled from its operands": itself once, and whatever its operands settle; by as many steps down
unfoldable pub times_settled_by : ℕ → List ℕ → ℕ → ℕ → ℕ
times_settled_by zero s t u = 0
times_settled_by (suc depth) s t u =
    let w = node_words s t in
    cond (eqb t u) 1 0 +
    cond (leb 2 w.operation) (times_settled_by depth s w.a u) 0 +
    cond (leb 3 w.operation) (times_settled_by depth s w.b u) 0

-- how often settling node t settles node u: t + 1 steps are enough
abbrev pub times_settled : List ℕ → ℕ → ℕ → ℕ
times_settled s t u = times_settled_by (suc t) s t u
