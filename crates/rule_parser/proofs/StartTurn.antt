-- The turn at an operand's start, by the token there.
use mathlib.Core.Path.{◌≡◌, refl, sym, subst, ◌∙◌}
use mathlib.Core.List.{List}
use Prim.Native.Nat.{ℕ, ◌+◌, ◌/◌, ◌%◌, ◌≤◌, ◌<◌}
use native.Mathlib.Omega.{arith}
use lib.ListN.{length, set}
use Rattle.std.proofs.Common.{Result, Ok, Err}
use Rattle.tctl.specs.Formula.{always, label}
use Rattle.rule_grammar.specs.Machine.{negated, opened}
use Rattle.rule_bytes.specs.RuleBytes.{nodes_from}
use Rattle.rule_tokens.specs.Tags.{open_tag}
use Rattle.rule_tokens.specs.declared.Token.{Token}
use Rattle.rule_tokens.specs.Start.{Start, truth, labels, negates, opens, nowhere, start_of, start_token}
use Rattle.rule_tokens.proofs.StartLaw.{Begun, true_begun, label_begun, not_begun, open_begun, none_begun, start_law}
use Rattle.rule_parser.specs.declared.Phase.TheVariants.{Start as starting, Read}
use Rattle.rule_parser.specs.declared.Spot.{Spot}
use Rattle.rule_stack.specs.Open.{put, one_node}
use Rattle.rule_parser.specs.Standing.{spot, Starting, Within, Stopped, Turned}
use Rattle.rule_parser.proofs.Around.{open_tag_lem}
use Rattle.rule_parser.proofs.Turns.{stop_turn, leaf_turn, push_turn}

module _ (t : List ℕ) (s : Spot) (stack all : List ℕ) (h : Starting t s stack all) (w : Within t s stack) where
  abbrev found : Start
  found = start_of t s.end

  law : Begun t h.around s.end found
  law = start_law t h.around s.end w.read

  -- a token that was read: `true` or a label, or what stands before an operand, for which there is room
  pub record Begins (k : Token) : Type 0 where
    pub leaf :
        k.tag < 2 →
        Turned t s (Ok (spot Read k.end s.depth (s.count + 1))) stack
        (put s.count (one_node k.tag (k.number % 256)) all)
    pub pushed : 2 ≤ k.tag → Turned t s (Ok (spot starting k.end (s.depth + 1) s.count)) (set stack s.depth k.tag) all
    pub room : 2 ≤ k.tag → s.depth < length stack

  abbrev pub Law : Result Token ℕ → Type 0
  Law (Ok k) = Begins k
  Law (Err place) = Stopped t place

  law_of : (x : Start) → Begun t h.around s.end x → Law (start_token x)
  unfolding nodes_from
  law_of (truth e) (true_begun p r) =
      record {
        leaf = λ _. leaf_turn t s stack all w h always (one_node 0 0) e refl refl (λ _. refl) p r;
        pushed = λ d. absurd (omega arith);
        room = λ d. absurd (omega arith);
      }
  law_of (labels n e) (label_begun p l r) =
      let high : n / 256 ≡ 0 = omega (arith, l) in
      record {
        leaf = λ _. leaf_turn t s stack all w h (label n) (one_node 1 (n % 256)) e refl refl (λ _. rw high) p r;
        pushed = λ d. absurd (omega arith);
        room = λ d. absurd (omega arith);
      }
  law_of (negates e) (not_begun p r) =
      record {
        leaf = λ z. absurd (omega arith);
        pushed = λ _. push_turn t s stack all w h negated 2 e refl refl refl p r;
        room = λ _. omega (arith, w.few, w.room, p.long, p.inside);
      }
  law_of (opens o e) (open_begun p r) =
      record {
        leaf = λ z. absurd (omega (arith, z, (open_tag_lem o).0));
        pushed = λ _. push_turn t s stack all w h (opened o) (open_tag o) e refl refl refl p r;
        room = λ _. omega (arith, w.few, w.room, p.long, p.inside);
      }
  law_of (nowhere e) (none_begun l r) = stop_turn t s stack all w e l (h.reaches ∙ r)

  -- the same of what was answered
  pub begun : {r : Result Token ℕ} → r ≡ start_token found → Law r
  begun e = subst Law (sym e) (law_of found law)
