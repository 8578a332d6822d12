-- Each turn of reading leaves what the machine comes to.
use mathlib.Core.Path.{◌≡◌, refl, sym, ap, subst, ◌∙◌}
use mathlib.Core.Bool.{true, false}
use mathlib.Core.List.{List, [], ◌∷◌, ◌++◌, append_assoc}
use Prim.Native.Nat.{ℕ, ◌+◌, ◌-◌, ◌/◌, ◌%◌, ◌≤◌, ◌<◌}
use native.Mathlib.Omega.{arith}
use lib.ListN.{length, get_or, set, length-set}
use lib.Seq.{sets, length-sets}
use Rattle.std.proofs.Common.{Ok, Err}
use Rattle.tctl.specs.Kind.{some_run, all_runs}
use Rattle.tctl.specs.Formula.{Formula, not}
use Rattle.rule_grammar.specs.Grammar.{fault}
use Rattle.rule_grammar.specs.Machine.{Join, conj, disj, until}
use Rattle.rule_grammar.specs.Machine.{Opening, Context, negated, opened, joined, start, ended, at, join, step, done}
use Rattle.rule_grammar.specs.Machine.{judge, from}
use Rattle.rule_grammar.proofs.From.{from_end, from_stuck, from_halt, from_same}
use Rattle.rule_bytes.specs.RuleBytes.{nodes, node_bytes, nodes_from}
use Rattle.rule_bytes.specs.JoinNode.{operation_of, kind_of, number_of}
use Rattle.rule_bytes.proofs.Bounds.{kind_few}
use Rattle.rule_bytes.proofs.Tree.{join_bytes, join_nodes, join_bytes_lem}
use Rattle.rule_tokens.specs.Tags.{join_tag}
use Rattle.rule_numbers.specs.Byte.{byte_is}
use Rattle.rule_numbers.proofs.Byte.{Span, byte_step, byte_not, inside_at}
use Rattle.rule_parser.specs.declared.Phase.TheVariants.{Start, Read, Done}
use Rattle.rule_parser.specs.declared.Spot.{Spot}
use Rattle.rule_stack.specs.Open.{held, written, entry, coded, put, one_node, joined_node}
use Rattle.rule_parser.specs.Standing.{spot, Opened, Noded, Within, Reaches}
use Rattle.rule_parser.specs.Standing.{Starting, Turned}
use Rattle.rule_parser.proofs.Stack.{opened_size, opened_byte, opened_around, opened_more}
use Rattle.rule_parser.proofs.Nodes.{noded_more}

-- a tag has its node's operation and kind
tag_parts : (j : Join) → (join_tag j / 8 ≡ operation_of j) × (join_tag j % 8 ≡ kind_of j)
tag_parts conj = (refl, refl)
tag_parts disj = (refl, refl)
tag_parts (until some_run s c) = let few = kind_few s c in (omega arith, omega arith)
tag_parts (until all_runs s c) = let few = kind_few s c in (omega arith, omega arith)

module _ (t : List ℕ) (s : Spot) (stack all : List ℕ) (w : Within t s stack) where
  -- the text has its fault here
  pub stop_turn : (e : ℕ) → e ≤ length t → judge t ≡ fault e → Turned t s (Err e) stack all
  stop_turn e l h = record { judged = h; inside = l }

  -- an operand of one node was read
  pub leaf_turn :
      (h : Starting t s stack all) (f : Formula) (node : List ℕ) (e : ℕ) → length node ≡ 8 → nodes f ≡ 1 →
      (s.count < 64 → node ≡ nodes_from (held h.around) f) → Span t s.end 2 e →
      from t s.end (at start h.around) ≡ from t e (at (ended f) h.around) →
      Turned t s (Ok (spot Read e s.depth (s.count + 1))) stack (put s.count node all)
  leaf_turn h f node e size one same span reach =
      record {
        standing =
            record {
              around = h.around;
              operand = f;
              opened = h.opened;
              count = omega (arith, h.count, one);
              noded =
                  noded_more node _ size h.noded
                  (λ l. ap (λ (b : List ℕ). written h.around ++ b) (same l));
              reaches = h.reaches ∙ reach;
            };
        within =
            record { read = span.inside; short = w.short; room = w.room; few = omega (arith, w.few, span.long) };
        onward = λ _. omega (arith, span.long, span.inside);
      }

  -- a formula around an operand was opened: no node is written yet
  pub push_turn :
      (h : Starting t s stack all) (k : Context) (tag e : ℕ) → held (k ∷ h.around) ≡ held h.around →
      written (k ∷ h.around) ≡ written h.around → entry (held h.around) k ≡ tag ∷ [] → Span t s.end 1 e →
      from t s.end (at start h.around) ≡ from t e (at start (k ∷ h.around)) →
      Turned t s (Ok (spot Start e (s.depth + 1) s.count)) (set stack s.depth tag) all
  push_turn h k tag e count nodes one span reach =
      let room : s.depth + 1 ≤ length stack = omega (arith, w.few, w.room, span.long, span.inside) in
      let pushed =
      opened_more k h.around s.depth stack h.opened
      (subst (λ (l : List ℕ). s.depth + length l ≤ length stack) (sym one) room) in
      record {
        standing =
            record {
              around = k ∷ h.around;
              opened =
                  subst
                  (λ (l : List ℕ). Opened (k ∷ h.around) (s.depth + length l) (sets stack s.depth l)) one pushed;
              count = h.count ∙ sym count;
              noded = subst (λ (b : List ℕ). Noded s.count b all) (sym nodes) h.noded;
              reaches = h.reaches ∙ reach;
            };
        within =
            record {
              read = span.inside;
              short = w.short;
              room = omega (arith, w.room, length-set stack s.depth tag);
              few = omega (arith, w.few, span.long);
            };
        onward = λ _. omega (arith, span.long, span.inside);
      }

  -- what is negated ends with its operand: the machine's step and its end are the same with both as one formula
  pub not_turn :
      (f : Formula) (K : List Context) → Opened (negated ∷ K) s.depth stack → s.count ≡ held K + nodes f →
      Noded s.count (written K ++ nodes_from (held K) f) all → Reaches t s (at (ended f) (negated ∷ K)) →
      Turned t s (Ok (spot Read s.end (s.depth - 1) (s.count + 1))) stack
      (put s.count (one_node 2 ((s.count - 1) % 256)) all)
  unfolding step done nodes_from
  not_turn f K h c n r =
      let size = opened_size negated K s.depth stack h in
      let a = held K + nodes f - 1 in
      let node_bytes_lem : s.count < 64 → one_node 2 ((s.count - 1) % 256) ≡ node_bytes 2 0 a 0 0 =
      λ l.
      let low : a / 256 ≡ 0 = omega (arith, c, l) in
      let same : s.count - 1 ≡ a = omega (arith, c) in
      rw (low, same) in
      record {
        standing =
            record {
              around = K;
              operand = not f;
              opened =
                  subst (λ (d : ℕ). Opened K d stack) (omega (arith, size)) (opened_around negated K s.depth stack h);
              count = omega (arith, c);
              noded =
                  noded_more _ _ refl n
                  (λ l.
                  ap (λ (b : List ℕ). written K ++ nodes_from (held K) f ++ b) (node_bytes_lem l) ∙ simp append_assoc);
              reaches =
                  r ∙ from_same t s.end (at (ended f) (negated ∷ K)) (at (ended (not f)) K) w.read (λ _. refl) refl;
            };
        within = record { read = w.read; short = w.short; room = w.room; few = omega (arith, w.few, size) };
        onward = λ _. omega (arith, size);
      }

  -- behind the first of two operands the sign was read: c, the operand's node and the tag are kept
  pub join_turn :
      (f : Formula) (o : Opening) (K : List Context) (j : Join) (e : ℕ) → Opened (opened o ∷ K) s.depth stack →
      s.count ≡ held K + nodes f → Noded s.count (written K ++ nodes_from (held K) f) all →
      Reaches t s (at (ended f) (opened o ∷ K)) → Span t s.end 3 e →
      from t s.end (at (ended f) (opened o ∷ K)) ≡ from t e (at start (joined j f ∷ K)) →
      Turned t s (Ok (spot Start e (s.depth + 3) s.count))
      (sets stack (s.depth - 1) (number_of j / 256 ∷ number_of j % 256 ∷ (s.count - 1) % 256 ∷ join_tag j ∷ [])) all
  join_turn f o K j e h c n r span reach =
      let size = opened_size (opened o) K s.depth stack h in
      let below : length (coded K) ≡ s.depth - 1 = omega (arith, size) in
      let around = subst (λ (d : ℕ). Opened K d stack) below (opened_around (opened o) K s.depth stack h) in
      let room : s.depth - 1 + 4 ≤ length stack = omega (arith, size, w.few, w.room, span.long, span.inside) in
      let more = opened_more (joined j f) K (s.depth - 1) stack around room in
      let deep : s.depth - 1 + 4 ≡ s.depth + 3 = omega (arith, size) in
      let same : held K + nodes f - 1 ≡ s.count - 1 = omega (arith, c) in
      let bytes = number_of j / 256 ∷ number_of j % 256 ∷ (s.count - 1) % 256 ∷ join_tag j ∷ [] in
      let kept : entry (held K) (joined j f) ≡ bytes = rw same in
      record {
        standing =
            record {
              around = joined j f ∷ K;
              opened =
                  subst (λ (l : List ℕ). Opened (joined j f ∷ K) (s.depth + 3) (sets stack (s.depth - 1) l)) kept
                  (subst
                  (λ (d : ℕ). Opened (joined j f ∷ K) d (sets stack (s.depth - 1) (entry (held K) (joined j f))))
                  deep more);
              count = c;
              noded = n;
              reaches = r ∙ reach;
            };
        within =
            record {
              read = span.inside;
              short = w.short;
              room = omega (arith, w.room, length-sets stack (s.depth - 1) bytes);
              few = omega (arith, w.few, span.long);
            };
        onward = λ _. omega (arith, span.long, span.inside);
      }

  -- behind the second of two operands the bracket was read: the node of both, from what was kept
  pub close_turn :
      (f g : Formula) (j : Join) (K : List Context) → Opened (joined j g ∷ K) s.depth stack →
      s.count ≡ held K + nodes g + nodes f →
      Noded s.count (written K ++ nodes_from (held K) g ++ nodes_from (held K + nodes g) f) all →
      Reaches t s (at (ended f) (joined j g ∷ K)) → byte_is t s.end 41 ≡ true →
      Turned t s (Ok (spot Read (s.end + 1) (s.depth - 4) (s.count + 1))) stack
      (put s.count (joined_node (get_or stack (s.depth - 1) 0) (s.depth - 4) s.count stack) all)
  unfolding step
  close_turn f g j K h c n r b =
      let size = opened_size (joined j g) K s.depth stack h in
      let below : length (coded K) ≡ s.depth - 4 = omega (arith, size) in
      let byte = opened_byte (joined j g) K s.depth stack h in
      let first : length (coded K) + 0 ≡ s.depth - 4 = omega (arith, below) in
      let last : length (coded K) + 3 ≡ s.depth - 1 = omega (arith, size) in
      let high = subst (λ (d : ℕ). get_or stack d 0 ≡ number_of j / 256) first (byte 0 (omega arith)) in
      let low = subst (λ (d : ℕ). get_or stack (d + 1) 0 ≡ number_of j % 256) below (byte 1 (omega arith)) in
      let left = subst (λ (d : ℕ). get_or stack (d + 2) 0 ≡ (held K + nodes g - 1) % 256) below (byte 2 (omega arith)) in
      let tag = subst (λ (d : ℕ). get_or stack d 0 ≡ join_tag j) last (byte 3 (omega arith)) in
      let node_bytes_lem : s.count < 64 →
      joined_node (get_or stack (s.depth - 1) 0) (s.depth - 4) s.count stack ≡ join_bytes j (held K) (nodes g) (nodes f) =
      λ l.
      let a : (held K + nodes g - 1) / 256 ≡ 0 = omega (arith, c, l) in
      let b : (held K + nodes g + nodes f - 1) / 256 ≡ 0 = omega (arith, c, l) in
      rw (tag, high, low, left, (tag_parts j).0, (tag_parts j).1, c, a, b) in
      let inside = inside_at t s.end 41 b in
      record {
        standing =
            record {
              around = K;
              operand = join j g f;
              opened = subst (λ (d : ℕ). Opened K d stack) below (opened_around (joined j g) K s.depth stack h);
              count = omega (arith, c, join_nodes j g f);
              noded =
                  noded_more (joined_node (get_or stack (s.depth - 1) 0) (s.depth - 4) s.count stack)
                  (written K ++ nodes_from (held K) (join j g f)) refl n
                  (λ l. rw (node_bytes_lem l, join_bytes_lem j (held K) g f) (simp append_assoc));
              reaches = r ∙ byte_step t s.end 41 (at (ended f) (joined j g ∷ K)) (at (ended (join j g f)) K) b refl;
            };
        within =
            record {
              read = omega (arith, inside);
              short = w.short;
              room = w.room;
              few = omega (arith, w.few, size);
            };
        onward = λ _. omega (arith, inside);
      }

  -- no bracket stands there
  pub open_turn :
      (f g : Formula) (j : Join) (K : List Context) → Reaches t s (at (ended f) (joined j g ∷ K)) →
      byte_is t s.end 41 ≡ false → Turned t s (Err s.end) stack all
  unfolding step done
  open_turn f g j K r b =
      stop_turn s.end w.read
      (r ∙ from_halt t s.end (at (ended f) (joined j g ∷ K)) w.read refl (λ l. rw (byte_not t s.end 41 b l)))

  -- nothing is open: the text ends, or has its fault there
  pub finish_turn :
      (f : Formula) → s.count ≡ nodes f → Noded s.count (nodes_from 0 f) all → Reaches t s (at (ended f) []) →
      s.end ≡ length t → Turned t s (Ok (spot Done s.end 0 s.count)) stack all
  unfolding done
  finish_turn f c n r e =
      record {
        standing =
            record {
              whole = f;
              end = e;
              count = c;
              noded = n;
              verdict = r ∙ from_end t s.end (at (ended f) []) e;
            };
        within = record { read = w.read; short = w.short; room = w.room; few = omega (arith, w.few) };
        onward = λ z. absurd (z refl);
      }

  pub rest_turn :
      (f : Formula) → Reaches t s (at (ended f) []) → s.end < length t → Turned t s (Err s.end) stack all
  unfolding step
  rest_turn f r l = stop_turn s.end w.read (r ∙ from_stuck t s.end (at (ended f) []) l refl)
