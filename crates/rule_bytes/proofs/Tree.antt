-- The bytes that are written for a formula stand for that formula.
use mathlib.Core.Path.{◌≡◌, refl, sym, ap, subst, ◌∙◌}
use mathlib.Core.List.{List, [], ◌++◌, append-nil}
use Prim.Native.Nat.{ℕ, zero, suc, ◌+◌, ◌-◌, ◌*◌, ◌≤◌, ◌<◌}
use native.Mathlib.Omega.{arith}
use lib.ListN.{length, length-append}
use Rattle.tctl.specs.Kind.{some_run, all_runs}
use Rattle.tctl.specs.Formula.{Formula, always, label, not, and, or, some_until, all_until}
use Rattle.rule_grammar.specs.Machine.{Join, conj, disj, until, join}
use Rattle.rule_grammar.proofs.Signs.{bound_cases}
use Rattle.rule.specs.Bytes.{node_count, node_words}
use Rattle.rule.specs.Formula.{operation, formula_by, formula_of}
use Rattle.rule.specs.declared.NodeWords.{NodeWords}
use Rattle.rule_bytes.specs.RuleBytes.{nodes, node_bytes, nodes_from, head_bytes, rule_bytes}
use Rattle.rule_bytes.specs.JoinNode.{operation_of, kind_of, number_of}
use Rattle.rule_bytes.proofs.Sits.{Sits, sits_first, sits_second, node_sits}
use Rattle.rule_bytes.proofs.Bounds.{bound_limit, bound_kind}

pub some_nodes : (f : Formula) → 1 ≤ nodes f
some_nodes always = omega arith
some_nodes (label i) = omega arith
some_nodes (not f) = omega arith
some_nodes (and f g) = omega arith
some_nodes (or f g) = omega arith
some_nodes (some_until b f g) = omega arith
some_nodes (all_until b f g) = omega arith

-- ── joined operands ──

pub join_nodes : (j : Join) (f g : Formula) → nodes (join j f g) ≡ nodes f + nodes g + 1
join_nodes conj f g = refl
join_nodes disj f g = refl
join_nodes (until some_run s c) f g = refl
join_nodes (until all_runs s c) f g = refl

-- the node that joins them, as words and as bytes
abbrev pub join_words : Join → ℕ → ℕ → NodeWords
join_words j a b = record { operation = operation_of j; kind = kind_of j; a = a; b = b; c = number_of j }

abbrev pub join_bytes : Join → ℕ → ℕ → ℕ → List ℕ
join_bytes j n f g = node_bytes (operation_of j) (kind_of j) (n + f - 1) (n + f + g - 1) (number_of j)

pub join_bytes_lem :
    (j : Join) (n : ℕ) (f g : Formula) →
    nodes_from n (join j f g) ≡ nodes_from n f ++ (nodes_from (n + nodes f) g ++ join_bytes j n (nodes f) (nodes g))
unfolding nodes_from
join_bytes_lem conj n f g = refl
join_bytes_lem disj n f g = refl
join_bytes_lem (until some_run s c) n f g = rw (bound_limit s c)
join_bytes_lem (until all_runs s c) n f g = rw (bound_limit s c)

-- a node's operation over operands that stand for f and g
join_operation :
    (j : Join) (f g : Formula) (a b : ℕ) (at : ℕ → Formula) → at a ≡ f → at b ≡ g →
    operation (operation_of j) (join_words j a b) at ≡ join j f g
join_operation conj f g a b at p q = cc
join_operation disj f g a b at p q = cc
join_operation (until some_run s c) f g a b at p q = let e = bound_kind s c in cc
join_operation (until all_runs s c) f g a b at p q = let e = bound_kind s c in cc

-- ── proofs by induction on a formula, one case for all that joins two ──

pub formula_induction :
    (P : Formula → Type 0) → P always → ((i : ℕ) → P (label i)) → ((f : Formula) → P f → P (not f)) →
    ((j : Join) (f g : Formula) → P f → P g → P (join j f g)) → (f : Formula) → P f
formula_induction P a l n j always = a
formula_induction P a l n j (label i) = l i
formula_induction P a l n j (not f) = n f (formula_induction P a l n j f)
formula_induction P a l n j (and f g) = j conj f g (formula_induction P a l n j f) (formula_induction P a l n j g)
formula_induction P a l n j (or f g) = j disj f g (formula_induction P a l n j f) (formula_induction P a l n j g)
formula_induction P a l n j (some_until b f g) =
    let p = formula_induction P a l n j f in
    let q = formula_induction P a l n j g in
    bound_cases (λ b. P (some_until b f g)) (λ s c. j (until some_run s c) f g p q) b
formula_induction P a l n j (all_until b f g) =
    let p = formula_induction P a l n j f in
    let q = formula_induction P a l n j g in
    bound_cases (λ b. P (all_until b f g)) (λ s c. j (until all_runs s c) f g p q) b

-- eight bytes a node
pub nodes_length : (f : Formula) (n : ℕ) → length (nodes_from n f) ≡ 8 * nodes f
unfolding nodes_from
nodes_length =
    formula_induction (λ f. (n : ℕ) → length (nodes_from n f) ≡ 8 * nodes f) (λ n. refl) (λ i n. refl)
    (λ f h n. rw (length-append (nodes_from n f)) (omega (arith, h n)))
    λ j f g h k n.
    let right = nodes_from (n + nodes f) g in
    let node = join_bytes j n (nodes f) (nodes g) in
    rw (join_bytes_lem j n f g, join_nodes j f g)
    (omega (arith, length-append (nodes_from n f) (right ++ node), length-append right node, h n, k (n + nodes f)))

-- ── the formula of the last of a formula's nodes ──

-- at any depth above the node's number
abbrev Stands : List ℕ → ℕ → Formula → Type 0
Stands s n f = (d : ℕ) → n + nodes f ≤ d → formula_by d s (n + nodes f - 1) ≡ f

-- a node's formula from its words, at a depth above 0
node_formula :
    (s : List ℕ) {w : NodeWords} (d t : ℕ) → node_words s t ≡ w → t < d →
    (e : ℕ) × (d ≡ suc e) × (formula_by d s t ≡ operation w.operation w (formula_by e s))
unfolding formula_by
node_formula s zero t h l = absurd (let z : ⊥ = omega arith in z)
node_formula s (suc e) t h l = (e, refl, ap (λ (w : NodeWords). operation w.operation w (formula_by e s)) h)

-- a node over two operands, from where the bytes of all three sit
join_stands :
    (s : List ℕ) (n : ℕ) (j : Join) (f g : Formula) → Stands s n f → Stands s (n + nodes f) g →
    Sits s (n + nodes f + nodes g) (join_bytes j n (nodes f) (nodes g)) → Stands s n (join j f g)
join_stands s n j f g p q sits d l =
    let size = join_nodes j f g in
    let t = n + nodes f + nodes g in
    let a = n + nodes f - 1 in
    let r = node_formula s d t (node_sits (operation_of j) (kind_of j) a (t - 1) (number_of j) sits) (omega arith) in
    let e : n + nodes (join j f g) - 1 ≡ t = omega arith in
    ap (formula_by d s) e ∙ r.2 ∙
    join_operation j f g a (t - 1) (formula_by r.0 s) (p r.0 (omega (arith, r.1))) (q r.0 (omega (arith, r.1)))

-- by induction on the formula: the last of its nodes names the last ones of its operands, which stand for them
pub stands : (f : Formula) (s : List ℕ) (n : ℕ) → Sits s n (nodes_from n f) → Stands s n f
unfolding nodes_from
stands =
    formula_induction (λ f. (s : List ℕ) (n : ℕ) → Sits s n (nodes_from n f) → Stands s n f)
    (λ s n h d l.
    let r = node_formula s d n (node_sits 0 0 0 0 0 h) (omega arith) in
    let e : n + 1 - 1 ≡ n = omega arith in
    ap (formula_by d s) e ∙ r.2)
    (λ i s n h d l.
    let r = node_formula s d n (node_sits 1 0 i 0 0 h) (omega arith) in
    let e : n + 1 - 1 ≡ n = omega arith in
    ap (formula_by d s) e ∙ r.2)
    (λ f ih s n h d l.
    let z = node_bytes 2 0 (n + nodes f - 1) 0 0 in
    let k = sits_second (nodes f) (nodes_from n f) z (nodes_length f n) h in
    let r = node_formula s d (n + nodes f) (node_sits 2 0 (n + nodes f - 1) 0 0 k) (omega arith) in
    let e : n + (nodes f + 1) - 1 ≡ n + nodes f = omega arith in
    ap (formula_by d s) e ∙ r.2 ∙
    ap not (ih s n (sits_first (nodes_from n f) z h) r.0 (omega (arith, r.1))))
    λ j f g p q s n h.
    let z = join_bytes j n (nodes f) (nodes g) in
    let right = nodes_from (n + nodes f) g in
    let all = subst (Sits s n) (join_bytes_lem j n f g) h in
    let rest = sits_second (nodes f) (nodes_from n f) (right ++ z) (nodes_length f n) all in
    join_stands s n j f g (p s n (sits_first (nodes_from n f) (right ++ z) all))
    (q s (n + nodes f) (sits_first right z rest))
    (sits_second (nodes g) right z (nodes_length g (n + nodes f)) rest)

-- ── the whole rule ──

pub count_written : (f : Formula) → node_count (rule_bytes f) ≡ nodes f
unfolding rule_bytes
count_written f = omega arith

pub sits_written : (f : Formula) → Sits (rule_bytes f) 0 (nodes_from 0 f)
unfolding rule_bytes
sits_written f =
    record {
      before = head_bytes (nodes f);
      behind = [];
      split = ap (λ (l : List ℕ). head_bytes (nodes f) ++ l) (sym (append-nil (nodes_from 0 f)));
      place = refl;
    }

-- the rule that is written has the formula: its last node stands for it, by `stands`
pub formula_written : (f : Formula) → formula_of (rule_bytes f) ≡ f
formula_written f =
    let k = count_written f in
    let one = some_nodes f in
    let a : node_count (rule_bytes f) - 1 ≡ 0 + nodes f - 1 = omega arith in
    ap (λ (t : ℕ). formula_by (suc t) (rule_bytes f) t) a ∙
    stands f (rule_bytes f) 0 (sits_written f) (suc (0 + nodes f - 1)) (omega arith)
