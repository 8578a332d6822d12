-- The turn behind an operand, by what is open around it.
use mathlib.Core.Path.{◌≡◌, sym, subst, ◌∙◌}
use mathlib.Core.Bool.{cond}
use mathlib.Core.List.{List, [], ◌∷◌}
use Prim.Native.Nat.{ℕ, ◌+◌, ◌-◌, ◌/◌, ◌%◌, ◌≤◌, ◌<◌}
use native.Mathlib.Omega.{arith}
use lib.ListN.{length, get_or}
use lib.Seq.{sets}
use lib.Dec.{eqb}
use borrow.Author.Tests.{eqb-true, eqb-false}
use Rattle.std.proofs.Common.{Result, Ok, Err}
use Rattle.base.proofs.Truth.{cond_elim}
use Rattle.rule_grammar.specs.Machine.{Opening}
use Rattle.rule_tokens.specs.Tags.{open_tag, OfOpening}
use Rattle.rule_numbers.specs.Byte.{byte_is, behind}
use Rattle.rule_tokens.specs.declared.Token.{Token}
use Rattle.rule_tokens.specs.Sign.{Signed, joins, unsigned, sign_of, sign_token}
use Rattle.rule_tokens.proofs.SignLaw.{Joins, joined_next, joined_none, sign_law}
use Rattle.rule_parser.specs.declared.Phase.TheVariants.{Start, Read, Done}
use Rattle.rule_parser.specs.declared.Spot.{Spot}
use Rattle.rule_stack.specs.Open.{put, one_node, joined_node}
use Rattle.rule_parser.specs.Standing.{spot, Behind, Within, Stopped, Turned}
use Rattle.rule_parser.proofs.Stack.{opened_size}
use Rattle.rule_parser.proofs.Around.{First, Second, outermost, negation, first_of_two, second_of_two}
use Rattle.rule_parser.proofs.Turns.{stop_turn, not_turn, join_turn, close_turn, open_turn, finish_turn, rest_turn}

module _ (t : List ℕ) (s : Spot) (stack all : List ℕ) (h : Behind t s stack all) (w : Within t s stack) where
  abbrev tag : ℕ
  tag = get_or stack (s.depth - 1) 0

  -- nothing is open
  pub finished :
      {r : Result Spot ℕ} → s.depth ≡ 0 → r ≡ cond (eqb s.end (length t)) (Ok (spot Done s.end 0 s.count)) (Err s.end) →
      Turned t s r stack all
  finished {r} z e =
      let x = outermost t s stack all h z in
      rw e
      (cond_elim (λ (y : Result Spot ℕ). Turned t s y stack all) (eqb s.end (length t))
      (λ q. finish_turn t s stack all w x.whole x.count x.noded x.reaches (eqb-true _ _ q))
      (λ q.
      let n = eqb-false s.end (length t) q in
      rest_turn t s stack all w x.whole x.reaches (omega (arith, n, w.read))))

  module _ (some : ¬ (s.depth ≡ 0)) where
    -- "!"
    pub negated_one :
        tag ≡ 2 →
        Turned t s (Ok (spot Read s.end (s.depth - 1) (s.count + 1))) stack
        (put s.count (one_node 2 ((s.count - 1) % 256)) all)
    negated_one z =
        let x = negation t s stack all h some z in
        not_turn t s stack all w x.operand x.around x.open_ones x.count x.noded x.reaches

    module _ (other : ¬ (tag ≡ 2)) where
      -- the first of two operands, and the sign that was read
      module _ (low : tag < 8) where
        first : First t s stack all
        first = (first_of_two t s stack all h some other low).0

        pub opening_low : tag ≤ 6
        opening_low = (first_of_two t s stack all h some other low).1

        pub opening_of : OfOpening tag
        opening_of = record { opening = first.opening; same = first.tagged }

        -- a sign that was read: what is kept of it, a small number, and room for it
        pub record Signs (k : Token) : Type 0 where
          pub turned :
              Turned t s (Ok (spot Start k.end (s.depth + 3) s.count))
              (sets stack (s.depth - 1)
              (k.number / 256 ∷ k.number % 256 ∷ (s.count - 1) % 256 ∷ k.tag ∷ [])) all
          pub small : k.number < 65536
          pub room : s.depth - 1 + 4 ≤ length stack

        abbrev pub Law : Result Token ℕ → Type 0
        Law (Ok k) = Signs k
        Law (Err place) = Stopped t place

        law_of : (x : Signed) → Joins t first.around first.operand first.opening s.end x → Law (sign_token x)
        law_of (joins j e) (joined_next p n r) =
            let f = first in
            let size = opened_size _ _ s.depth stack f.open_ones in
            record {
              turned =
                  join_turn t s stack all w f.operand f.opening f.around j e f.open_ones f.count f.noded
                  f.reaches p r;
              small = n;
              room = omega (arith, size, w.few, w.room, p.long, p.inside);
            }
        law_of (unsigned e) (joined_none l r) = stop_turn t s stack all w e l (first.reaches ∙ r)

        -- the same of what was answered
        pub signed :
            {r : Result Token ℕ} → ((o : Opening) → tag ≡ open_tag o → r ≡ sign_token (sign_of o t s.end)) → Law r
        signed read =
            subst Law (sym (read first.opening first.tagged))
            (law_of _ (sign_law t first.around first.operand first.opening s.end w.read))

      -- the second of two operands
      module _ (high : 8 ≤ tag) where
        second : Second t s stack all
        second = (second_of_two t s stack all h some other high).0

        pub four_deep : 4 ≤ s.depth
        four_deep = (second_of_two t s stack all h some other high).1

        abbrev pub Close : Result ℕ ℕ → Type 0
        Close (Ok e) =
            Turned t s (Ok (spot Read e (s.depth - 4) (s.count + 1))) stack
            (put s.count (joined_node tag (s.depth - 4) s.count stack) all)
        Close (Err place) = Stopped t place

        -- ")"
        pub closed : {r : Result ℕ ℕ} → r ≡ behind t s.end 41 → Close r
        closed e =
            let x = second in
            rw e
            (cond_elim Close (byte_is t s.end 41)
            (close_turn t s stack all w x.operand x.first x.sign x.around x.open_ones x.count x.noded x.reaches)
            (open_turn t s stack all w x.operand x.first x.sign x.around x.reaches))
