-- The token where an operand starts is what the machine makes of the text there.
use mathlib.Core.Path.{◌≡◌, refl, ap, ◌∙◌}
use mathlib.Core.Bool.{Bool, true, false}
use mathlib.Core.List.{List, ◌∷◌}
use mathlib.Core.Option.{none}
use Prim.Native.Nat.{ℕ, ◌+◌, ◌-◌, ◌≤◌, ◌<◌}
use native.Mathlib.Omega.{arith}
use lib.ListN.{length, get_or, drop}
use lib.Dec.{ltb}
use borrow.Author.Tests.{ltb-true}
use Rattle.base.proofs.Truth.{and_iff, cond_elim}
use Rattle.tctl.specs.Kind.{Runs, some_run, all_runs}
use Rattle.tctl.specs.Formula.{always, label}
use Rattle.rule_grammar.specs.Grammar.{fault}
use Rattle.rule_grammar.specs.Machine.{Opening, pair, timed, Context, negated, opened}
use Rattle.rule_grammar.specs.Machine.{start, t as t₁, tr, tru, letter, labelled}
use Rattle.rule_grammar.specs.Machine.{quantified, ended, State, at, step, done, from}
use Rattle.decimal.specs.Value.{is_digit as digit}
use Rattle.decimal.proofs.DigitRange.{digit_true}
use Rattle.rule_grammar.proofs.From.{from_step, from_halt, from_same}
use Rattle.rule_numbers.specs.Byte.{byte_is}
use Rattle.rule_numbers.specs.Number.{digit_at, further, number_from}
use Rattle.rule_tokens.specs.Start.{Start, truth, labels, negates, opens}
use Rattle.rule_tokens.specs.Start.{nowhere, true_from, label_from, bracket_from, start_of}
use Rattle.rule_numbers.proofs.Byte.{Span, inside_at, byte_not, byte_step, digit_not}
use Rattle.rule_numbers.proofs.NumberLaw.{further_grown}

module _ (s : List ℕ) (K : List Context) where
  -- what the machine, at an operand's start, makes of the text from place i on
  pub data Begun (i : ℕ) : Start → Type 0 where
    true_begun : {e : ℕ} → Span s i 2 e → from s i (at start K) ≡ from s e (at (ended always) K) → Begun i (truth e)
    label_begun :
        {n e : ℕ} → Span s i 2 e → n ≤ 15 → from s i (at start K) ≡ from s e (at (ended (label n)) K) → Begun i (labels n e)
    not_begun : {e : ℕ} → Span s i 1 e → from s i (at start K) ≡ from s e (at start (negated ∷ K)) → Begun i (negates e)
    open_begun :
        {o : Opening} {e : ℕ} → Span s i 1 e → from s i (at start K) ≡ from s e (at start (opened o ∷ K)) →
        Begun i (opens o e)
    none_begun : {e : ℕ} → e ≤ length s → from s i (at start K) ≡ fault e → Begun i (nowhere e)

  module _ (i j : ℕ) (p : i + 1 ≤ j) (l : j ≤ length s) where
    -- no token goes on from here
    none_law : (st : State) (k : ℕ) → k ≤ length s → from s i (at start K) ≡ from s k st → done st ≡ none →
        (k < length s → step st (get_or s k 0) ≡ none) → Begun i (nowhere k)
    none_law st k h e d n = none_begun h (e ∙ from_halt s k st h d n)

    -- behind "t"
    true_law : from s i (at start K) ≡ from s j (at t₁ K) → Begun i (true_from s j)
    unfolding step done
    true_law e =
        cond_elim (Begun i) (byte_is s j 114)
        (λ r.
        let first = e ∙ byte_step s j 114 (at t₁ K) (at tr K) r refl in
        let a = inside_at s j 114 r in
        cond_elim (Begun i) (byte_is s (j + 1) 117)
        (λ u.
        let b = inside_at s (j + 1) 117 u in
        let two : j + 1 + 1 ≡ j + 2 = omega arith in
        let second =
        first ∙ byte_step s (j + 1) 117 (at tr K) (at tru K) u refl ∙ ap (λ (k : ℕ). from s k (at tru K)) two in
        cond_elim (Begun i) (byte_is s (j + 2) 101)
        (λ v.
        let c = inside_at s (j + 2) 101 v in
        let three : j + 2 + 1 ≡ j + 3 = omega arith in
        true_begun (record { long = omega (arith, p); inside = omega (arith, c) })
        (second ∙ byte_step s (j + 2) 101 (at tru K) (at (ended always) K) v refl ∙
        ap (λ (k : ℕ). from s k (at (ended always) K)) three))
        (λ v. none_law (at tru K) (j + 2) (omega (arith, b)) second refl (λ k. rw (byte_not s (j + 2) 101 v k))))
        (λ u. none_law (at tr K) (j + 1) (omega (arith, a)) first refl (λ k. rw (byte_not s (j + 1) 117 u k))))
        (λ r. none_law (at t₁ K) j l e refl (λ k. rw (byte_not s j 114 r k)))

    -- behind "L": the first digit, then those behind it; no more may follow, so the label ends
    label_law : from s i (at start K) ≡ from s j (at letter K) → Begun i (label_from s j)
    unfolding step done number_from
    label_law e = turn (digit_at s j) refl
      where
        turn : (c : Bool) → digit_at s j ≡ c → Begun i (label_from s j)
        turn true d =
            let k = ltb-true j (length s) ((and_iff (ltb j (length s)) (digit (get_or s j 0))).0 d).0 in
            let one = ((and_iff (ltb j (length s)) (digit (get_or s j 0))).0 d).1 in
            let low = digit_true (get_or s j 0) one in
            let n = get_or s j 0 - 48 in
            let g =
            further_grown s (λ m. at (labelled m) K) 15 (λ m b h. rw h) n (j + 1) (omega (arith, k))
            (omega (arith, low.low, low.high)) in
            let r = further 15 n (drop (j + 1) s) (j + 1) in
            rw d
            (label_begun {n = r.value} {e = r.end} (record { long = omega (arith, p, g.after); inside = g.inside })
            g.few
            (e ∙ from_step s j (at letter K) k (rw one) ∙ g.same ∙
            from_same s r.end (at (labelled r.value) K) (at (ended (label r.value)) K) g.inside
            (λ m. rw (g.stops m)) refl))
        turn false d =
            rw d
            (none_law (at letter K) j l e refl
            (λ k. rw (digit_not s j d k)))

    -- behind "E" or "A"
    bracket_law : (q : Runs) → from s i (at start K) ≡ from s j (at (quantified q) K) → Begun i (bracket_from q s j)
    unfolding step done
    bracket_law q e =
        cond_elim (Begun i) (byte_is s j 40)
        (λ b.
        open_begun (record { long = omega (arith, p); inside = omega (arith, inside_at s j 40 b) })
        (e ∙ byte_step s j 40 (at (quantified q) K) (at start (opened (timed q) ∷ K)) b refl))
        (λ b. none_law (at (quantified q) K) j l e refl (λ k. rw (byte_not s j 40 b k)))

  pub start_law : (i : ℕ) → i ≤ length s → Begun i (start_of s i)
  unfolding start_of step done
  start_law i h =
      cond_elim (Begun i) (byte_is s i 116)
      (λ b. true_law i (i + 1) (omega arith) (inside 116 b) (byte_step s i 116 (at start K) (at t₁ K) b refl)) λ b₁.
      cond_elim (Begun i) (byte_is s i 76)
      (λ b. label_law i (i + 1) (omega arith) (inside 76 b) (byte_step s i 76 (at start K) (at letter K) b refl)) λ b₂.
      cond_elim (Begun i) (byte_is s i 33)
      (λ b.
      not_begun (record { long = omega arith; inside = inside 33 b })
      (byte_step s i 33 (at start K) (at start (negated ∷ K)) b refl)) λ b₃.
      cond_elim (Begun i) (byte_is s i 40)
      (λ b.
      open_begun (record { long = omega arith; inside = inside 40 b })
      (byte_step s i 40 (at start K) (at start (opened pair ∷ K)) b refl)) λ b₄.
      cond_elim (Begun i) (byte_is s i 69)
      (λ b.
      bracket_law i (i + 1) (omega arith) (inside 69 b) some_run
      (byte_step s i 69 (at start K) (at (quantified some_run) K) b refl))
      λ b₅.
      cond_elim (Begun i) (byte_is s i 65)
      (λ b.
      bracket_law i (i + 1) (omega arith) (inside 65 b) all_runs
      (byte_step s i 65 (at start K) (at (quantified all_runs) K) b refl))
      λ b₆.
      none_begun h
      (from_halt s i (at start K) h refl
      (λ k.
      rw (
        byte_not s i 116 b₁ k,
        byte_not s i 76 b₂ k,
        byte_not s i 33 b₃ k,
        byte_not s i 40 b₄ k,
        byte_not s i 69 b₅ k,
        byte_not s i 65 b₆ k,
      )))
    where
      inside : (b : ℕ) → byte_is s i b ≡ true → i + 1 ≤ length s
      inside b e = omega (arith, inside_at s i b e)
