-- The sign behind the first of two operands is what the machine makes of the text there.
use mathlib.Core.Path.{◌≡◌, refl, ◌∙◌}
use mathlib.Core.Bool.{Bool, true, false}
use mathlib.Core.List.{List, ◌∷◌}
use mathlib.Core.Option.{none}
use Prim.Native.Nat.{ℕ, ◌+◌, ◌-◌, ◌≤◌, ◌<◌}
use native.Mathlib.Omega.{arith}
use lib.ListN.{length, get_or, drop}
use lib.Dec.{ltb}
use borrow.Author.Tests.{ltb-true}
use Rattle.base.proofs.Truth.{and_iff, cond_elim}
use Rattle.tctl.specs.Kind.{Runs}
use Rattle.tctl.specs.Formula.{Formula}
use Rattle.rule_grammar.specs.Grammar.{fault}
use Rattle.rule_grammar.specs.Machine.{Sign, less, more, equal, Join, conj, disj}
use Rattle.rule_grammar.specs.Machine.{until, Opening, pair, timed, Context, opened, joined}
use Rattle.rule_grammar.specs.Machine.{start, ended, spaced, awaited, compared, equalled, linked, State, at, step, done}
use Rattle.rule_grammar.specs.Machine.{further as further-step, from, most_of}
use Rattle.decimal.specs.Value.{is_digit as digit}
use Rattle.decimal.proofs.DigitRange.{digit_true}
use Rattle.rule_grammar.proofs.Signs.{most_range}
use Rattle.rule_grammar.proofs.Complete.{digit_no_space}
use Rattle.rule_grammar.proofs.From.{from_step, from_halt}
use Rattle.rule_bytes.specs.JoinNode.{number_of}
use Rattle.rule_numbers.specs.Byte.{byte_is}
use Rattle.rule_numbers.specs.Number.{digit_at, further, number_from}
use Rattle.rule_tokens.specs.Sign.{Signed, joins, unsigned, space_from}
use Rattle.rule_tokens.specs.Sign.{limit_from, equal_from, bound_from, sign_from, sign_of}
use Rattle.rule_numbers.proofs.Byte.{Span, inside_at, byte_not, byte_step, digit_not}
use Rattle.rule_numbers.proofs.NumberLaw.{further_grown}

module _ (s : List ℕ) (K : List Context) (f : Formula) (o : Opening) where
  abbrev operand : State
  operand = at (ended f) (opened o ∷ K)

  -- what the machine, behind the first operand, makes of the text from place i on
  pub data Joins (i : ℕ) : Signed → Type 0 where
    joined_next :
        {j : Join} {e : ℕ} → Span s i 3 e → number_of j < 65536 →
        from s i operand ≡ from s e (at start (joined j f ∷ K)) → Joins i (joins j e)
    joined_none : {e : ℕ} → e ≤ length s → from s i operand ≡ fault e → Joins i (unsigned e)

  module _ (i : ℕ) where
    -- no sign goes on from here
    halts : (st : State) (k : ℕ) → k ≤ length s → from s i operand ≡ from s k st → done st ≡ none →
        (k < length s → step st (get_or s k 0) ≡ none) → Joins i (unsigned k)
    halts st k h e d n = joined_none h (e ∙ from_halt s k st h d n)

    -- the space behind the sign: nothing else goes on from there
    space_law :
        (j : Join) (k : ℕ) → number_of j < 65536 → i + 2 ≤ k → k ≤ length s →
        from s i operand ≡ from s k (at (linked j f) K) →
        (k < length s → further-step j f K (get_or s k 0) ≡ none) → Joins i (space_from j s k)
    unfolding step done
    space_law j k small p l e n =
        cond_elim (Joins i) (byte_is s k 32)
        (λ b.
        joined_next (record { long = omega (arith, p); inside = omega (arith, inside_at s k 32 b) }) small
        (e ∙ byte_step s k 32 (at (linked j f) K) (at start (joined j f ∷ K)) b refl))
        (λ b. halts (at (linked j f) K) k l e refl (λ h. rw (byte_not s k 32 b h) (n h)))

    -- behind "U<=", "U>=" or "U==": a number, and no digit that it may have behind it
    limit_law :
        (q : Runs) (g : Sign) (k : ℕ) → i + 2 ≤ k → k ≤ length s → from s i operand ≡ from s k (at (equalled q g f) K) →
        Joins i (limit_from q g s k)
    unfolding step done number_from
    limit_law q g k p l e = turn (digit_at s k) refl
      where
        turn : (c : Bool) → digit_at s k ≡ c → Joins i (limit_from q g s k)
        turn true d =
            let h = ltb-true k (length s) ((and_iff (ltb k (length s)) (digit (get_or s k 0))).0 d).0 in
            let one = ((and_iff (ltb k (length s)) (digit (get_or s k 0))).0 d).1 in
            let low = digit_true (get_or s k 0) one in
            let n = get_or s k 0 - 48 in
            let few : n ≤ most_of g = omega (arith, low.low, low.high, (most_range g).0) in
            let w =
            further_grown s (λ m. at (linked (until q g m) f) K) (most_of g)
            (λ m b z. rw (digit_no_space m b (most_of g) z, z)) n (k + 1) (omega (arith, h)) few in
            let r = further (most_of g) n (drop (k + 1) s) (k + 1) in
            rw d
            (space_law (until q g r.value) r.end (omega (arith, w.few, (most_range g).1)) (omega (arith, p, w.after))
            w.inside
            (e ∙ from_step s k (at (equalled q g f) K) h (rw one) ∙ w.same)
            (λ m. rw (w.stops m)))
        turn false d =
            rw d (halts (at (equalled q g f) K) k l e refl (λ h. rw (digit_not s k d h)))

    -- behind "U<", "U>" or "U="
    equal_law :
        (q : Runs) (g : Sign) (k : ℕ) → i + 2 ≤ k → k ≤ length s → from s i operand ≡ from s k (at (compared q g f) K) →
        Joins i (equal_from q g s k)
    unfolding step done
    equal_law q g k p l e =
        cond_elim (Joins i) (byte_is s k 61)
        (λ b.
        limit_law q g (k + 1) (omega (arith, p)) (omega (arith, inside_at s k 61 b))
        (e ∙ byte_step s k 61 (at (compared q g f) K) (at (equalled q g f) K) b refl))
        (λ b. halts (at (compared q g f) K) k l e refl (λ h. rw (byte_not s k 61 b h)))

    -- behind "U"
    bound_law :
        (q : Runs) (k : ℕ) → i + 2 ≤ k → k ≤ length s → from s i operand ≡ from s k (at (awaited q f) K) →
        Joins i (bound_from q s k)
    unfolding step done
    bound_law q k p l e =
        cond_elim (Joins i) (byte_is s k 60)
        (λ b.
        equal_law q less (k + 1) (omega (arith, p)) (omega (arith, inside_at s k 60 b))
        (e ∙ byte_step s k 60 (at (awaited q f) K) (at (compared q less f) K) b refl)) λ b₁.
        cond_elim (Joins i) (byte_is s k 62)
        (λ b.
        equal_law q more (k + 1) (omega (arith, p)) (omega (arith, inside_at s k 62 b))
        (e ∙ byte_step s k 62 (at (awaited q f) K) (at (compared q more f) K) b refl)) λ b₂.
        cond_elim (Joins i) (byte_is s k 61)
        (λ b.
        equal_law q equal (k + 1) (omega (arith, p)) (omega (arith, inside_at s k 61 b))
        (e ∙ byte_step s k 61 (at (awaited q f) K) (at (compared q equal f) K) b refl)) λ b₃.
        halts (at (awaited q f) K) k l e refl
        (λ h. rw (byte_not s k 60 b₁ h, byte_not s k 62 b₂ h, byte_not s k 61 b₃ h))

-- behind the space before the sign
from_law :
    (s : List ℕ) (K : List Context) (f : Formula) (o : Opening) (i k : ℕ) → i + 1 ≤ k → k ≤ length s →
    from s i (at (ended f) (opened o ∷ K)) ≡ from s k (at (spaced o f) K) → Joins s K f o i (sign_from o s k)
unfolding step done
from_law s K f pair i k p l e =
    cond_elim (Joins s K f pair i) (byte_is s k 38)
    (λ b.
    space_law s K f pair i conj (k + 1) (omega arith) (omega (arith, p)) (omega (arith, inside_at s k 38 b))
    (e ∙ byte_step s k 38 (at (spaced pair f) K) (at (linked conj f) K) b refl) (λ _. refl)) λ b₁.
    cond_elim (Joins s K f pair i) (byte_is s k 124)
    (λ b.
    space_law s K f pair i disj (k + 1) (omega arith) (omega (arith, p)) (omega (arith, inside_at s k 124 b))
    (e ∙ byte_step s k 124 (at (spaced pair f) K) (at (linked disj f) K) b refl) (λ _. refl)) λ b₂.
    halts s K f pair i (at (spaced pair f) K) k l e refl (λ h. rw (byte_not s k 38 b₁ h, byte_not s k 124 b₂ h))
from_law s K f (timed q) i k p l e =
    cond_elim (Joins s K f (timed q) i) (byte_is s k 85)
    (λ b.
    bound_law s K f (timed q) i q (k + 1) (omega (arith, p)) (omega (arith, inside_at s k 85 b))
    (e ∙ byte_step s k 85 (at (spaced (timed q) f) K) (at (awaited q f) K) b refl))
    (λ b. halts s K f (timed q) i (at (spaced (timed q) f) K) k l e refl (λ h. rw (byte_not s k 85 b h)))

pub sign_law :
    (s : List ℕ) (K : List Context) (f : Formula) (o : Opening) (i : ℕ) → i ≤ length s → Joins s K f o i (sign_of o s i)
unfolding sign_of step done
sign_law s K f o i h =
    cond_elim (Joins s K f o i) (byte_is s i 32)
    (λ b.
    from_law s K f o i (i + 1) (omega arith) (omega (arith, inside_at s i 32 b))
    (byte_step s i 32 (at (ended f) (opened o ∷ K)) (at (spaced o f) K) b refl))
    (λ b. halts s K f o i (at (ended f) (opened o ∷ K)) i h refl refl (λ k. rw (byte_not s i 32 b k)))
