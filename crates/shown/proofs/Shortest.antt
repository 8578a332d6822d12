-- The first number of steps that is enough gives a shortest reason; where none of 0 to 256 is enough there is no reason
-- of at most 256 steps.
use mathlib.Core.Path.{◌≡◌, refl, sym, ◌∙◌}
use mathlib.Core.Logic.{◌↔◌, by_cases}
use mathlib.Core.List.{List}
use mathlib.Core.Option.{Option, none, some}
use mathlib.Core.Bool.{Bool, true, false, false≢true}
use Prim.Native.Nat.{ℕ, zero, suc, ◌≤◌, ◌<◌}
use native.Mathlib.Omega.{arith}
use native.Mathlib.Decide.{dec_le}
use lib.ListN.{length}
use Rattle.outcome.specs.Refusal.{lowest}
use Rattle.outcome.proofs.Lowest.{some_lowest, none_below}
use Rattle.shown.specs.Shown.{Position, Shortest}

-- what is shown has k steps
abbrev pub Steps : ℕ → List Position → Type 0
Steps k shown = length shown ≡ suc k

-- `enough` finds the reasons: each reason's number of steps is enough, and at the first that is, `walk` is a reason
pub record Finds (enough : ℕ → Bool) (walk : ℕ → List Position) (Reasons : List Position → Type 0) : Type 0 where
  pub size : (k : ℕ) → Steps k (walk k)
  pub walks : (k : ℕ) → enough k ≡ true → ((j : ℕ) → j < k → enough j ≡ false) → Reasons (walk k)
  pub counts : (k : ℕ) (shown : List Position) → Reasons shown → Steps k shown → enough k ≡ true
  pub some : (shown : List Position) → Reasons shown → 1 ≤ length shown

-- the same reasons, said otherwise
pub finds_same :
    {enough : ℕ → Bool} {walk : ℕ → List Position} {R R' : List Position → Type 0} →
    ((shown : List Position) → R shown ↔ R' shown) → Finds enough walk R → Finds enough walk R'
finds_same {walk = walk} i f =
    record {
      size = f.size;
      walks = λ k e under. (i (walk k)).0 (f.walks k e under);
      counts = λ k shown r. f.counts k shown ((i shown).1 r);
      some = λ shown r. f.some shown ((i shown).1 r);
    }

module _
    {enough : ℕ → Bool}
    {walk : ℕ → List Position}
    {Reasons : List Position → Type 0}
    (f : Finds enough walk Reasons) where
  -- if fewer steps are not enough, k are just where a reason of k steps is
  pub first_enough_iff :
      (k : ℕ) → ((j : ℕ) → j < k → enough j ≡ false) →
      (enough k ≡ true) ↔ ((shown : List Position) × Reasons shown × Steps k shown)
  first_enough_iff k under = (λ e. (walk k, f.walks k e under, f.size k), λ w. f.counts k w.0 w.1 w.2)

  -- a reason has as many steps as are enough
  counted : (shown : List Position) → Reasons shown → (k : ℕ) × Steps k shown × (enough k ≡ true)
  counted shown r = turn (length shown) refl
    where
      turn : (n : ℕ) → length shown ≡ n → (k : ℕ) × Steps k shown × (enough k ≡ true)
      turn zero e = absurd (let y : ⊥ = omega (arith, f.some shown r) in y)
      turn (suc k) e = (k, e, f.counts k shown r e)

  -- and at the first number that is enough no reason is shorter than the walk
  pub first_fewest :
      (k : ℕ) → ((j : ℕ) → j < k → enough j ≡ false) → (other : List Position) → Reasons other →
      length (walk k) ≤ length other
  first_fewest k under other r =
      let w = counted other r in
      by_cases (dec_le k w.0) (λ i. omega (arith, f.size k, w.1))
      (λ i. absurd (false≢true (sym (under w.0 (omega arith)) ∙ w.2)))

  pub lowest_shortest : (k : ℕ) → lowest enough 257 ≡ some k → Shortest Reasons (walk k)
  lowest_shortest k e =
      let l = some_lowest enough 257 k e in
      record {
        reason = f.walks k l.offends l.under;
        short = omega (arith, f.size k, l.inside);
        fewest = first_fewest k l.under;
      }

  pub no_lowest_iff : (lowest enough 257 ≡ none) ↔ ((shown : List Position) → Reasons shown → ¬ (length shown ≤ 257))
  no_lowest_iff = (
    λ e shown r l.
        let w = counted shown r in
        false≢true (sym (none_below enough 257 e w.0 (omega (arith, w.1))) ∙ w.2),
    λ h. turn h (lowest enough 257) refl,
  )
    where
      turn :
          ((shown : List Position) → Reasons shown → ¬ (length shown ≤ 257)) → (o : Option ℕ) →
          lowest enough 257 ≡ o → lowest enough 257 ≡ none
      turn h none e = e
      turn h (some k) e =
          let w = lowest_shortest k e in
          absurd (h (walk k) w.reason w.short)
