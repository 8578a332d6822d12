-- What is open around an operand that was read, by the tag on top of the stack.
use mathlib.Core.Path.{◌≡◌, subst}
use mathlib.Core.List.{List, [], ◌∷◌, ◌++◌}
use Prim.Native.Nat.{ℕ, ◌+◌, ◌-◌, ◌≤◌, ◌<◌}
use native.Mathlib.Omega.{arith}
use lib.ListN.{length, get_or}
use Rattle.tctl.specs.Kind.{some_run, all_runs}
use Rattle.tctl.specs.Formula.{Formula}
use Rattle.rule_grammar.specs.Machine.{Join, conj, disj, until, Opening}
use Rattle.rule_grammar.specs.Machine.{pair, timed, Context, negated, opened, joined, ended, at}
use Rattle.rule_bytes.specs.RuleBytes.{nodes, nodes_from}
use Rattle.rule_bytes.proofs.Tree.{some_nodes}
use Rattle.rule_tokens.specs.Tags.{open_tag, join_tag}
use Rattle.rule_parser.specs.declared.Spot.{Spot}
use Rattle.rule_stack.specs.Open.{held, written, coded}
use Rattle.rule_parser.specs.Standing.{Opened, Noded, Reaches, Behind}
use Rattle.rule_parser.proofs.Stack.{opened_size, opened_byte}

pub open_tag_lem : (o : Opening) → (3 ≤ open_tag o) × (open_tag o ≤ 6)
open_tag_lem pair = (omega arith, omega arith)
open_tag_lem (timed some_run) = (omega arith, omega arith)
open_tag_lem (timed all_runs) = (omega arith, omega arith)

pub join_tag_lem : (j : Join) → 8 ≤ join_tag j
join_tag_lem conj = omega arith
join_tag_lem disj = omega arith
join_tag_lem (until some_run s c) = omega arith
join_tag_lem (until all_runs s c) = omega arith

module _ (t : List ℕ) (s : Spot) (stack all : List ℕ) where
  abbrev tag : ℕ
  tag = get_or stack (s.depth - 1) 0

  -- nothing
  pub record Outermost : Type 0 where
    pub whole : Formula
    pub count : s.count ≡ nodes whole
    pub noded : Noded s.count (nodes_from 0 whole) all
    pub reaches : Reaches t s (at (ended whole) [])

  -- "!"
  pub record Negated : Type 0 where
    pub operand : Formula
    pub around : List Context
    pub open_ones : Opened (negated ∷ around) s.depth stack
    pub count : s.count ≡ held around + nodes operand
    pub noded : Noded s.count (written around ++ nodes_from (held around) operand) all
    pub reaches : Reaches t s (at (ended operand) (negated ∷ around))

  -- an opening: the operand is the first of two
  pub record First : Type 0 where
    pub operand : Formula
    pub opening : Opening
    pub around : List Context
    pub tagged : tag ≡ open_tag opening
    pub open_ones : Opened (opened opening ∷ around) s.depth stack
    pub count : s.count ≡ held around + nodes operand
    pub noded : Noded s.count (written around ++ nodes_from (held around) operand) all
    pub reaches : Reaches t s (at (ended operand) (opened opening ∷ around))

  -- an opening, an operand and a sign: this is the second
  pub record Second : Type 0 where
    pub operand : Formula
    pub first : Formula
    pub sign : Join
    pub around : List Context
    pub open_ones : Opened (joined sign first ∷ around) s.depth stack
    pub count : s.count ≡ held around + nodes first + nodes operand
    pub noded :
        Noded s.count
        (written around ++ nodes_from (held around) first ++ nodes_from (held around + nodes first) operand) all
    pub reaches : Reaches t s (at (ended operand) (joined sign first ∷ around))

  -- the tag is the last byte of what is kept
  tag_negated : (K : List Context) → Opened (negated ∷ K) s.depth stack → tag ≡ 2
  tag_negated K h =
      let size = opened_size negated K s.depth stack h in
      let e : length (coded K) + 0 ≡ s.depth - 1 = omega (arith, size) in
      subst (λ (d : ℕ). get_or stack d 0 ≡ 2) e (opened_byte negated K s.depth stack h 0 (omega arith))

  tag_opened : (o : Opening) (K : List Context) → Opened (opened o ∷ K) s.depth stack → tag ≡ open_tag o
  tag_opened o K h =
      let size = opened_size (opened o) K s.depth stack h in
      let e : length (coded K) + 0 ≡ s.depth - 1 = omega (arith, size) in
      subst (λ (d : ℕ). get_or stack d 0 ≡ open_tag o) e (opened_byte (opened o) K s.depth stack h 0 (omega arith))

  tag_joined : (j : Join) (f : Formula) (K : List Context) → Opened (joined j f ∷ K) s.depth stack → tag ≡ join_tag j
  tag_joined j f K h =
      let size = opened_size (joined j f) K s.depth stack h in
      let e : length (coded K) + 3 ≡ s.depth - 1 = omega (arith, size) in
      subst (λ (d : ℕ). get_or stack d 0 ≡ join_tag j) e (opened_byte (joined j f) K s.depth stack h 3 (omega arith))

  -- one of the four, and what the tests see of it
  data Around : Type 0 where
    outer : s.depth ≡ 0 → Outermost → Around
    under : 1 ≤ s.depth → tag ≡ 2 → Negated → Around
    before : 1 ≤ s.depth → 3 ≤ tag → tag ≤ 6 → First → Around
    after : 4 ≤ s.depth → 8 ≤ tag → Second → Around

  around_by :
      (f : Formula) (K : List Context) → Opened K s.depth stack → s.count ≡ held K + nodes f →
      Noded s.count (written K ++ nodes_from (held K) f) all → Reaches t s (at (ended f) K) → Around
  around_by f [] o c n r = outer o.deep (record { whole = f; count = omega (arith, c); noded = n; reaches = r })
  around_by f (negated ∷ K) o c n r =
      under (omega (arith, opened_size negated K s.depth stack o)) (tag_negated K o)
      (record { operand = f; around = K; open_ones = o; count = c; noded = n; reaches = r })
  around_by f (opened p ∷ K) o c n r =
      let e = tag_opened p K o in
      before (omega (arith, opened_size (opened p) K s.depth stack o)) (omega (arith, e, (open_tag_lem p).0))
      (omega (arith, e, (open_tag_lem p).1))
      (record { operand = f; opening = p; around = K; tagged = e; open_ones = o; count = c; noded = n; reaches = r })
  around_by f (joined j g ∷ K) o c n r =
      after (omega (arith, opened_size (joined j g) K s.depth stack o)) (omega (arith, tag_joined j g K o, join_tag_lem j))
      (record { operand = f; first = g; sign = j; around = K; open_ones = o; count = c; noded = n; reaches = r })

  around_of : Behind t s stack all → Around
  around_of h = around_by h.operand h.around h.opened h.count h.noded h.reaches

  module _ (h : Behind t s stack all) where
    pub outermost : s.depth ≡ 0 → Outermost
    outermost z = turn (around_of h)
      where
        turn : Around → Outermost
        turn (outer d x) = x
        turn (under d e x) = absurd (omega (arith, d, z))
        turn (before d e g x) = absurd (omega (arith, d, z))
        turn (after d e x) = absurd (omega (arith, d, z))

    pub negation : ¬ (s.depth ≡ 0) → tag ≡ 2 → Negated
    negation z two = turn (around_of h)
      where
        turn : Around → Negated
        turn (outer d x) = absurd (z d)
        turn (under d e x) = x
        turn (before d e g x) = absurd (omega (arith, e, two))
        turn (after d e x) = absurd (omega (arith, e, two))

    pub first_of_two : ¬ (s.depth ≡ 0) → ¬ (tag ≡ 2) → tag < 8 → First × (tag ≤ 6)
    first_of_two z two low = turn (around_of h)
      where
        turn : Around → First × (tag ≤ 6)
        turn (outer d x) = absurd (z d)
        turn (under d e x) = absurd (two e)
        turn (before d e g x) = (x, g)
        turn (after d e x) = absurd (omega (arith, e, low))

    pub second_of_two : ¬ (s.depth ≡ 0) → ¬ (tag ≡ 2) → 8 ≤ tag → Second × (4 ≤ s.depth)
    second_of_two z two high = turn (around_of h)
      where
        turn : Around → Second × (4 ≤ s.depth)
        turn (outer d x) = absurd (z d)
        turn (under d e x) = absurd (two e)
        turn (before d e g x) = absurd (omega (arith, g, high))
        turn (after d e x) = (x, d)

    -- a node was written
    pub one_node_lem : 1 ≤ s.count
    one_node_lem = omega (arith, h.count, some_nodes h.operand)
