-- The two tests meet their contracts: each return is a law of Steps, and the node number falls at each call.
use mathlib.Core.Path.{◌≡◌, ◌∙◌}
use mathlib.Core.List.{List}
use Prim.Native.Nat.{ℕ, ◌<◌, ◌≤◌, ◌+◌, ◌*◌}
use native.Mathlib.Omega.{arith}
use lib.ListN.{length}
use Rattle.tctl.specs.Kind.{all_runs, some_run}
use Rattle.rule.specs.Bytes.{node_count, node_words}
use Rattle.rule.specs.Refusals.{rule_refusal}
use Rattle.rule.specs.declared.NodeWords.{NodeWords}
use Rattle.rule.proofs.Accepted as rule
use Rattle.rule.proofs.Read.{ReadNode, a_lower, b_lower}
use Rattle.call_kind.proofs.Steps.{leaf_returns, not_returns, until_returns, right_returns, left_returns}
use Rattle.call_kind.proofs.+all_runs_some_run.Goals as goal

-- what both tests ask of node t
abbrev Asked : List ℕ → ℕ → Type 0
Asked s t = ((rule_refusal s).number ≡ 0) × (t < node_count s)

-- node t of a rule that passes its checks may be read
reads : (s : List ℕ) (t : ℕ) → Asked s t → 15 + 8 * t ≤ length s
reads s t p = omega (arith, (rule.accepted s p.0).shape.whole, p.1)

-- what was read is node t
node : (s : List ℕ) (t : ℕ) {w : NodeWords} → Asked s t → w ≡ node_words s t → ReadNode s t w
node s t p e = record { accepted = p.0; low = p.1; read = e }

-- a lower node may be asked of
lower : (s : List ℕ) (t : ℕ) {m v : ℕ} → t ≡ m → Asked s t → v < t → (v < m) × Asked s v
lower s t e p h = (omega arith, (p.0, omega (arith, h, p.1)))

pub all_runs-node_at-node-requires : goal.all_runs-node_at-node-requires
all_runs-node_at-node-requires t c =
    reads c.args.rule.now c.args.t c.requires

pub all_runs-returns-then-node-lt-NOT : goal.all_runs-returns-then-node-lt-NOT
all_runs-returns-then-node-lt-NOT t c =
    leaf_returns (node c.args.rule.now c.args.t c.requires c.node_at-node.ensures.0) all_runs c.if-node-lt-NOT.true

pub all_runs-some_run-requires : goal.all_runs-some_run-requires
all_runs-some_run-requires t c =
    let read = node c.args.rule.now c.args.t c.requires c.node_at-node.ensures.0 in
    lower c.args.rule.now c.args.t c.decreases c.requires (a_lower read (omega arith))

pub all_runs-returns-then-node-eq-NOT : goal.all_runs-returns-then-node-eq-NOT
all_runs-returns-then-node-eq-NOT t c =
    not_returns (node c.args.rule.now c.args.t c.requires c.node_at-node.ensures.0) all_runs c.if-node-eq-NOT.true c.some_run.ensures

pub all_runs-returns-then-node-eq-SOME_UNTIL : goal.all_runs-returns-then-node-eq-SOME_UNTIL
all_runs-returns-then-node-eq-SOME_UNTIL t c =
    until_returns (node c.args.rule.now c.args.t c.requires c.node_at-node.ensures.0) all_runs c.if-node-eq-SOME_UNTIL.true

pub all_runs-all_runs-requires : goal.all_runs-all_runs-requires
all_runs-all_runs-requires t c =
    let read = node c.args.rule.now c.args.t c.requires c.node_at-node.ensures.0 in
    lower c.args.rule.now c.args.t c.decreases c.requires (a_lower read (omega arith))

pub all_runs-all_runs-requires-then-all_runs : goal.all_runs-all_runs-requires-then-all_runs
all_runs-all_runs-requires-then-all_runs t c =
    let read = node c.args.rule.now c.args.t c.requires c.node_at-node.ensures.0 in
    lower c.args.rule.now c.args.t c.decreases c.requires (b_lower read (omega arith))

pub all_runs-returns-then-all_runs : goal.all_runs-returns-then-all_runs
all_runs-returns-then-all_runs t c =
    right_returns (node c.args.rule.now c.args.t c.requires c.node_at-node.ensures.0) all_runs (omega arith) (λ e. omega arith)
    c.all_runs.ensures c.if-all_runs.true c.all_runs-then-all_runs.ensures

pub all_runs-returns-else-all_runs : goal.all_runs-returns-else-all_runs
all_runs-returns-else-all_runs t c =
    c.if-all_runs.false ∙
    left_returns (node c.args.rule.now c.args.t c.requires c.node_at-node.ensures.0) all_runs (omega arith) (λ e. omega arith)
    c.all_runs.ensures c.if-all_runs.false

pub some_run-node_at-node-requires : goal.some_run-node_at-node-requires
some_run-node_at-node-requires t c =
    reads c.args.rule.now c.args.t c.requires

pub some_run-returns-then-node-lt-NOT : goal.some_run-returns-then-node-lt-NOT
some_run-returns-then-node-lt-NOT t c =
    leaf_returns (node c.args.rule.now c.args.t c.requires c.node_at-node.ensures.0) some_run c.if-node-lt-NOT.true

pub some_run-all_runs-requires : goal.some_run-all_runs-requires
some_run-all_runs-requires t c =
    let read = node c.args.rule.now c.args.t c.requires c.node_at-node.ensures.0 in
    lower c.args.rule.now c.args.t c.decreases c.requires (a_lower read (omega arith))

pub some_run-returns-then-node-eq-NOT : goal.some_run-returns-then-node-eq-NOT
some_run-returns-then-node-eq-NOT t c =
    not_returns (node c.args.rule.now c.args.t c.requires c.node_at-node.ensures.0) some_run c.if-node-eq-NOT.true c.all_runs.ensures

pub some_run-returns-then-node-eq-ALL_UNTIL : goal.some_run-returns-then-node-eq-ALL_UNTIL
some_run-returns-then-node-eq-ALL_UNTIL t c =
    until_returns (node c.args.rule.now c.args.t c.requires c.node_at-node.ensures.0) some_run c.if-node-eq-ALL_UNTIL.true

pub some_run-some_run-requires : goal.some_run-some_run-requires
some_run-some_run-requires t c =
    let read = node c.args.rule.now c.args.t c.requires c.node_at-node.ensures.0 in
    lower c.args.rule.now c.args.t c.decreases c.requires (a_lower read (omega arith))

pub some_run-some_run-requires-then-some_run : goal.some_run-some_run-requires-then-some_run
some_run-some_run-requires-then-some_run t c =
    let read = node c.args.rule.now c.args.t c.requires c.node_at-node.ensures.0 in
    lower c.args.rule.now c.args.t c.decreases c.requires (b_lower read (omega arith))

pub some_run-returns-then-some_run : goal.some_run-returns-then-some_run
some_run-returns-then-some_run t c =
    right_returns (node c.args.rule.now c.args.t c.requires c.node_at-node.ensures.0) some_run (omega arith) (λ e. omega arith)
    c.some_run.ensures c.if-some_run.true c.some_run-then-some_run.ensures

pub some_run-returns-else-some_run : goal.some_run-returns-else-some_run
some_run-returns-else-some_run t c =
    c.if-some_run.false ∙
    left_returns (node c.args.rule.now c.args.t c.requires c.node_at-node.ensures.0) some_run (omega arith) (λ e. omega arith)
    c.some_run.ensures c.if-some_run.false
