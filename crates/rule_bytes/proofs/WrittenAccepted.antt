-- A rule that is written for a formula in range, of at most 64 nodes, passes checks 10 to 16.
use mathlib.Core.Path.{◌≡◌, refl, sym, ap, subst, ◌∙◌}
use mathlib.Core.Bool
use mathlib.Core.Bool.{Bool, false, cond}
use mathlib.Core.List.{List, ◌++◌}
use Prim.Native.Nat.{ℕ, suc, ◌+◌, ◌-◌, ◌*◌, ◌≤◌, ◌<◌}
use native.Mathlib.Omega.{arith}
use native.Mathlib.Decide.{dec_lt, ℕ_discrete}
use lib.ListN.{length, length-append}
use lib.Dec.{eqb}
use borrow.Author.Tests.{le-ltb, lt-leb, eq-eqb, ne_eqb}
use Rattle.base.specs.Sum
use Rattle.outcome.specs.Refusal.{success, first}
use Rattle.outcome.proofs.Lowest.{lowest_none}
use Rattle.tctl.specs.Kind.{Runs, some_run, all_runs}
use Rattle.tctl.specs.Formula.{Formula}
use Rattle.rule_grammar.specs.Machine.{Sign, less, more, equal, most_of, Join, conj, disj, until}
use Rattle.rule_grammar.specs.Grammar.{InRange}
use Rattle.rule_grammar.specs.Machine.{join}
use Rattle.head.specs.Head.{version, stated_length}
use Rattle.rule_grammar.proofs.Seen.{JoinLive, join_range}
use Rattle.rule.specs.Bytes.{node_count, node_words}
use Rattle.rule.specs.Form.{form_of}
use Rattle.rule.specs.Refusals.{wrong_bound, wrong_kind, wrong_a, malformed, not_lower, uses_in, uses, rule_table, rule_refusal}
use Rattle.rule.specs.declared.NodeWords.{NodeWords}
use Rattle.rule_bytes.specs.RuleBytes.{nodes, node_bytes, nodes_from, head_bytes, rule_bytes}
use Rattle.rule_bytes.specs.JoinNode.{operation_of, kind_of, number_of}
use Rattle.rule_bytes.proofs.Sits.{Sits, sits_first, sits_second, node_sits}
use Rattle.rule_bytes.proofs.Tree.{formula_induction, join_nodes, join_words, join_bytes, join_bytes_lem}
use Rattle.rule_bytes.proofs.Tree.{nodes_length, some_nodes, count_written, sits_written}

-- ── where the parts of a joined formula sit ──

module _ (s : List ℕ) (n : ℕ) (j : Join) (f g : Formula) (h : Sits s n (nodes_from n (join j f g))) where
  abbrev right : List ℕ
  right = nodes_from (n + nodes f) g

  abbrev last : List ℕ
  last = join_bytes j n (nodes f) (nodes g)

  all_three : Sits s n (nodes_from n f ++ (right ++ last))
  all_three = subst (Sits s n) (join_bytes_lem j n f g) h

  from_right : Sits s (n + nodes f) (right ++ last)
  from_right = sits_second (nodes f) (nodes_from n f) (right ++ last) (nodes_length f n) all_three

  pub sits_left : Sits s n (nodes_from n f)
  sits_left = sits_first (nodes_from n f) (right ++ last) all_three

  pub sits_right : Sits s (n + nodes f) (nodes_from (n + nodes f) g)
  sits_right = sits_first right last from_right

  pub sits_node :
      node_words s (n + nodes f + nodes g) ≡ join_words j (n + nodes f - 1) (n + nodes f + nodes g - 1)
  sits_node =
      node_sits (operation_of j) (kind_of j) (n + nodes f - 1) (n + nodes f + nodes g - 1) (number_of j)
      (sits_second (nodes g) right last (nodes_length g (n + nodes f)) from_right)

-- ── 14 and 15: each node is well formed, and its operands are lower ──

pub record Formed (t : ℕ) (w : NodeWords) : Type 0 where
  pub formed : malformed w ≡ false
  pub lower : not_lower t w ≡ false

-- a bound in range is one that check 14 takes
bound_formed : (q : Runs) (s : Sign) (c a b : ℕ) → c ≤ most_of s → wrong_bound (join_words (until q s c) a b) ≡ false
unfolding wrong_bound
bound_formed q less c a b h = refl
bound_formed q more c a b h = refl
bound_formed q equal c a b h = rw (le-ltb 255 c h)

join_formed : (j : Join) (t a b : ℕ) → JoinLive j → a < t → b < t → Formed t (join_words j a b)
unfolding malformed not_lower form_of wrong_kind wrong_a
join_formed conj t a b l h k = record { formed = refl; lower = rw (lt-leb t a h, lt-leb t b k) }
join_formed disj t a b l h k = record { formed = refl; lower = rw (lt-leb t a h, lt-leb t b k) }
join_formed (until some_run s c) t a b l h k =
    record { formed = rw (bound_formed some_run s c a b l); lower = rw (lt-leb t a h, lt-leb t b k) }
join_formed (until all_runs s c) t a b l h k =
    record { formed = rw (bound_formed all_runs s c a b l); lower = rw (lt-leb t a h, lt-leb t b k) }

abbrev AllFormed : Formula → Type 0
AllFormed f =
    InRange f → (s : List ℕ) (n : ℕ) → Sits s n (nodes_from n f) → (t : ℕ) → n ≤ t → t < n + nodes f →
    Formed t (node_words s t)

-- the words of the node t, which is node n
at_node : (s : List ℕ) {w : NodeWords} (t n : ℕ) → t ≡ n → node_words s n ≡ w → Formed t w → Formed t (node_words s t)
at_node s t n e h k = subst (Formed t) (sym (ap (node_words s) e ∙ h)) k

-- a node is of an operand, or the last one, which was written over operands that are lower
pub all_formed : (f : Formula) → AllFormed f
unfolding nodes_from malformed not_lower form_of wrong_kind wrong_a
all_formed =
    formula_induction AllFormed
    (λ _ s n h t l m. at_node s t n (omega arith) (node_sits 0 0 0 0 0 h) (record { formed = refl; lower = refl }))
    (λ i r s n h t l m.
    at_node s t n (omega arith) (node_sits 1 0 i 0 0 h)
    (record { formed = rw (le-ltb 15 i r); lower = refl }))
    (λ f ih r s n h t l m.
    let z = node_bytes 2 0 (n + nodes f - 1) 0 0 in
    let one = some_nodes f in
    turn_not f ih r s n (sits_first (nodes_from n f) z h)
    (node_sits 2 0 (n + nodes f - 1) 0 0 (sits_second (nodes f) (nodes_from n f) z (nodes_length f n) h))
    t l m (dec_lt t (n + nodes f)))
    λ j f g p q r s n h t l m.
    let size = join_nodes j f g in
    turn_join j f g p q (join_range j f g r) s n h t l (omega arith) (dec_lt t (n + nodes f))
    (dec_lt t (n + nodes f + nodes g))
  where
    turn_not :
        (f : Formula) → AllFormed f → InRange f → (s : List ℕ) (n : ℕ) → Sits s n (nodes_from n f) →
        node_words s (n + nodes f) ≡ record { operation = 2; kind = 0; a = n + nodes f - 1; b = 0; c = 0 } →
        (t : ℕ) → n ≤ t → t < n + (nodes f + 1) → Dec (t < n + nodes f) → Formed t (node_words s t)
    turn_not f ih r s n h w t l m (yes k) = ih r s n h t l k
    turn_not f ih r s n h w t l m (no k) =
        let one = some_nodes f in
        at_node s t (n + nodes f) (omega arith) w
        (record { formed = refl; lower = rw (lt-leb t (n + nodes f - 1) (omega arith)) })

    turn_join :
        (j : Join) (f g : Formula) → AllFormed f → AllFormed g → JoinLive j × InRange f × InRange g →
        (s : List ℕ) (n : ℕ) → Sits s n (nodes_from n (join j f g)) → (t : ℕ) → n ≤ t →
        t < n + (nodes f + nodes g + 1) → Dec (t < n + nodes f) → Dec (t < n + nodes f + nodes g) →
        Formed t (node_words s t)
    turn_join j f g p q r s n h t l m (yes k) d = p r.1 s n (sits_left s n j f g h) t l k
    turn_join j f g p q r s n h t l m (no k) (yes d) =
        q r.2 s (n + nodes f) (sits_right s n j f g h) t (omega arith) d
    turn_join j f g p q r s n h t l m (no k) (no d) =
        let one = some_nodes f in
        let two = some_nodes g in
        at_node s t (n + nodes f + nodes g) (omega arith) (sits_node s n j f g h)
        (join_formed j t (n + nodes f - 1) (n + nodes f + nodes g - 1) r.0 (omega arith) (omega arith))

-- ── 16: each node but the last is an operand once ──

-- how often the k nodes from n on name v: once if v is one of them but the last, else never
record Once (s : List ℕ) (n k v : ℕ) : Type 0 where
  before : v < n → uses s (n + k) v ≡ uses s n v
  inside : n ≤ v → v + 1 < n + k → uses s (n + k) v ≡ uses s n v + 1
  beyond : n + k ≤ v + 1 → uses s (n + k) v ≡ uses s n v

-- 1 if a node is named
abbrev one_if : ℕ → ℕ → ℕ
one_if a v = cond (eqb a v) 1 0

named : {a v : ℕ} → a ≡ v → one_if a v ≡ 1
named {a} {v} e = rw (eq-eqb a v e)

unnamed : {a v : ℕ} → (a ≡ v → ⊥) → one_if a v ≡ 0
unnamed {a} {v} h = rw (ne_eqb a v h)

-- one node more
uses_one : (s : List ℕ) (t v : ℕ) {w : NodeWords} → node_words s t ≡ w → uses s (t + 1) v ≡ uses s t v + uses_in v w
unfolding uses Sum.sum
uses_one s t v e =
    let one : t + 1 ≡ suc t = omega arith in
    ap (λ (k : ℕ). uses s k v) one ∙ ap (λ (w : NodeWords). uses s t v + uses_in v w) e

join_uses : (j : Join) (a b v : ℕ) → uses_in v (join_words j a b) ≡ one_if a v + one_if b v
unfolding uses_in form_of
join_uses conj a b v = refl
join_uses disj a b v = refl
join_uses (until some_run q c) a b v = refl
join_uses (until all_runs q c) a b v = refl

-- a node without operands
leaf_once :
    (s : List ℕ) (n v : ℕ) {w : NodeWords} → node_words s n ≡ w → uses_in v w ≡ 0 → Once s n 1 v
leaf_once s n v h e =
    let k = uses_one s n v h in
    record { before = λ l. omega arith; inside = λ l m. omega arith; beyond = λ l. omega arith }

-- a node over one operand
module _ (s : List ℕ) (n f v : ℕ) (one : 1 ≤ f) (p : Once s n f v) where
  abbrev a : ℕ
  a = n + f - 1

  not_once :
      uses s (n + (f + 1)) v ≡ uses s (n + f) v + one_if a v → Once s n (f + 1) v
  not_once k =
      record {
        before =
            λ l.
            let x = p.before l in
            let y = unnamed {a = a} {v = v} (λ z. let u : ⊥ = omega arith in u) in omega arith;
        inside = λ l m. turn l m (ℕ_discrete a v);
        beyond =
            λ l.
            let x = p.beyond (omega arith) in
            let y = unnamed {a = a} {v = v} (λ z. let u : ⊥ = omega arith in u) in omega arith;
      }
    where
      turn : n ≤ v → v + 1 < n + (f + 1) → Dec (a ≡ v) → uses s (n + (f + 1)) v ≡ uses s n v + 1
      turn l m (yes e) = let x = p.beyond (omega arith) in let y = named e in omega arith
      turn l m (no e) = let x = p.inside l (omega arith) in let y = unnamed e in omega arith

-- and over two
module _ (s : List ℕ) (n f g v : ℕ) (one : 1 ≤ f) (two : 1 ≤ g) (p : Once s n f v) (q : Once s (n + f) g v) where
  abbrev a₂ : ℕ
  a₂ = n + f - 1

  abbrev b₂ : ℕ
  b₂ = n + f + g - 1

  join_once :
      uses s (n + (f + g + 1)) v ≡ uses s (n + f + g) v + (one_if a₂ v + one_if b₂ v) →
      Once s n (f + g + 1) v
  join_once k =
      record {
        before =
            λ l.
            let x = p.before l in
            let y = q.before (omega arith) in
            let i = unnamed {a = a₂} {v = v} (λ z. let u : ⊥ = omega arith in u) in
            let j = unnamed {a = b₂} {v = v} (λ z. let u : ⊥ = omega arith in u) in
            omega arith;
        inside = λ l m. turn l m (ℕ_discrete a₂ v) (ℕ_discrete b₂ v) (dec_lt v (n + f));
        beyond =
            λ l.
            let x = p.beyond (omega arith) in
            let y = q.beyond (omega arith) in
            let i = unnamed {a = a₂} {v = v} (λ z. let u : ⊥ = omega arith in u) in
            let j = unnamed {a = b₂} {v = v} (λ z. let u : ⊥ = omega arith in u) in
            omega arith;
      }
    where
      turn :
          n ≤ v → v + 1 < n + (f + g + 1) → Dec (a₂ ≡ v) → Dec (b₂ ≡ v) → Dec (v < n + f) →
          uses s (n + (f + g + 1)) v ≡ uses s n v + 1
      turn l m (yes e) d c =
          let x = p.beyond (omega arith) in
          let y = q.before (omega arith) in
          let i = named e in
          let j = unnamed {a = b₂} {v = v} (λ z. let u : ⊥ = omega arith in u) in
          omega arith
      turn l m (no e) (yes d) c =
          let x = p.beyond (omega arith) in
          let y = q.beyond (omega arith) in
          let i = unnamed e in
          let j = named d in
          omega arith
      turn l m (no e) (no d) (yes c) =
          let x = p.inside l (omega arith) in
          let y = q.before c in
          let i = unnamed e in
          let j = unnamed d in
          omega arith
      turn l m (no e) (no d) (no c) =
          let x = p.beyond (omega arith) in
          let y = q.inside (omega arith) (omega arith) in
          let i = unnamed e in
          let j = unnamed d in
          omega arith

abbrev AllOnce : Formula → Type 0
AllOnce f = (s : List ℕ) (n v : ℕ) → Sits s n (nodes_from n f) → Once s n (nodes f) v

-- by induction: below the formula's nodes and from its last one on it names none; between them the operands name all but
-- their last ones, and the last node names these
all_once : (f : Formula) → AllOnce f
unfolding nodes_from uses_in form_of
all_once =
    formula_induction AllOnce
    (λ s n v h. leaf_once s n v (node_sits 0 0 0 0 0 h) refl)
    (λ i s n v h. leaf_once s n v (node_sits 1 0 i 0 0 h) refl)
    (λ f ih s n v h.
    let z = node_bytes 2 0 (n + nodes f - 1) 0 0 in
    let node = node_sits 2 0 (n + nodes f - 1) 0 0 (sits_second (nodes f) (nodes_from n f) z (nodes_length f n) h) in
    let more : n + (nodes f + 1) ≡ n + nodes f + 1 = omega arith in
    let k = ap (λ (t : ℕ). uses s t v) more ∙ uses_one s (n + nodes f) v node in
    not_once s n (nodes f) v (some_nodes f) (ih s n v (sits_first (nodes_from n f) z h)) (omega (arith, k)))
    λ j f g p q s n v h.
    let a = n + nodes f - 1 in
    let b = n + nodes f + nodes g - 1 in
    let more : n + (nodes f + nodes g + 1) ≡ n + nodes f + nodes g + 1 = omega arith in
    let k =
    ap (λ (t : ℕ). uses s t v) more ∙ uses_one s (n + nodes f + nodes g) v (sits_node s n j f g h) ∙
    ap (λ (x : ℕ). uses s (n + nodes f + nodes g) v + x) (join_uses j a b v) in
    subst (λ (x : ℕ). Once s n x v) (sym (join_nodes j f g))
    (join_once s n (nodes f) (nodes g) v (some_nodes f) (some_nodes g)
    (p s n v (sits_left s n j f g h)) (q s (n + nodes f) v (sits_right s n j f g h)) k)

-- ── all rows ──

pub written_length : (f : Formula) → length (rule_bytes f) ≡ 7 + 8 * nodes f
unfolding rule_bytes
written_length f = omega (arith, length-append (head_bytes (nodes f)) (nodes_from 0 f), nodes_length f 0)

head_written :
    (f : Formula) → nodes f ≤ 64 → (version (rule_bytes f) ≡ 1) × (stated_length (rule_bytes f) ≡ length (rule_bytes f))
unfolding rule_bytes
head_written f few = (refl, omega (arith, length-append (head_bytes (nodes f)) (nodes_from 0 f), nodes_length f 0))

module _ (f : Formula) (few : nodes f ≤ 64) where
  abbrev rule : List ℕ
  rule = rule_bytes f

  nodes_formed : InRange f → (t : ℕ) → t < node_count rule → Formed t (node_words rule t)
  nodes_formed r t l =
      let k = count_written f in
      all_formed f r rule 0 (sits_written f) t (omega arith) (omega arith)

  nodes_once : (v : ℕ) → v < node_count rule - 1 → Bool.not (eqb (uses rule (node_count rule) v) 1) ≡ false
  unfolding uses Sum.sum
  nodes_once v l =
      let k = count_written f in
      let one = some_nodes f in
      let zero_in : 0 + nodes f ≡ node_count rule = omega arith in
      let h = (all_once f rule 0 v (sits_written f)).inside (omega arith) (omega arith) in
      let e : uses rule (node_count rule) v ≡ 1 = ap (λ (x : ℕ). uses rule x v) (sym zero_in) ∙ h in
      ap Bool.not (eq-eqb _ _ e)

  pub written_accepted : InRange f → rule_refusal rule ≡ success
  unfolding rule_table first
  written_accepted r =
      let k = count_written f in
      let one = some_nodes f in
      let size : length rule ≡ 7 + 8 * nodes f = written_length f in
      let head = head_written f few in
      rw (
        le-ltb (length rule) 7 (omega arith),
        eq-eqb _ _ head.0,
        eq-eqb _ _ head.1,
        le-ltb (node_count rule) 1 (omega arith),
        le-ltb 64 (node_count rule) (omega arith),
        eq-eqb (length rule) (7 + 8 * node_count rule) (omega arith),
        lowest_none (λ t. malformed (node_words rule t)) (node_count rule) (λ t l. (nodes_formed r t l).formed),
        lowest_none (λ t. not_lower t (node_words rule t)) (node_count rule) (λ t l. (nodes_formed r t l).lower),
        lowest_none (λ v. Bool.not (eqb (uses rule (node_count rule) v) 1)) (node_count rule - 1) nodes_once,
      )
