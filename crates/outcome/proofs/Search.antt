-- A row whose place a loop looks for, from 0 on: what the loop answers where it finds an offender, and at its end.
use mathlib.Core.Path.{◌≡◌, refl, sym, ap, ◌∙◌}
use mathlib.Core.Bool.{Bool, true, false}
use mathlib.Core.List.{[], ◌∷◌}
use mathlib.Core.Option.{Option, none, some}
use Prim.Native.Nat.{ℕ, suc, ◌≤◌, ◌<◌}
use native.Mathlib.Omega.{arith}
use Rattle.std.specs.Prelude.{Option as Maybe, Some, None}
use Rattle.std.specs.Bool.{then_some}
use Rattle.std.specs.Option.{option_or}
use Rattle.outcome.specs.declared.Outcome.{Outcome}
use Rattle.outcome.specs.Refusal.{refuse, refusal, success, or_else, lowest, first}
use Rattle.outcome.proofs.Lowest.{Least, lowest_some, lowest_none, none_below, some_lowest}
use Rattle.outcome.proofs.First.{Numbered, first_met, first_passed, unmet_at, part_zero}

pub search_found : (n : ℕ) {p : ℕ → Bool} {k i : ℕ} → Least p k i → refusal n i ≡ first (refuse n (lowest p k) ∷ [])
search_found n {p} {k} {i} h = sym (first_met n (lowest p k) i [] (lowest_some p h))

pub search_ended :
    (n : ℕ) {p : ℕ → Bool} {k : ℕ} → ((i : ℕ) → i < k → p i ≡ false) → success ≡ first (refuse n (lowest p k) ∷ [])
unfolding first
search_ended n {p} {k} h = sym (first_passed n (lowest p k) [] (lowest_none p k h))

-- ── The answer r of a search up to k ──

module _ (n : ℕ) (p : ℕ → Bool) {k : ℕ} {r : Outcome} (e : r ≡ first (refuse n (lowest p k) ∷ [])) where
  pub search_passed :
      Numbered (refuse n (lowest p k) ∷ []) → r.number ≡ 0 → (i : ℕ) → i < k → p i ≡ false
  search_passed h z =
      let part = refuse n (lowest p k) ∷ [] in
      none_below p k (unmet_at part h (part_zero part e z) 0)

  -- the lowest offender below k is the lowest of more numbers too
  pub search_wider : {l : ℕ} → k ≤ l → (r.number ≡ 0 → ⊥) → r ≡ first (refuse n (lowest p l) ∷ [])
  unfolding first
  search_wider {l} m h = turn (lowest p k) refl
    where
      turn : (o : Option ℕ) → lowest p k ≡ o → r ≡ first (refuse n (lowest p l) ∷ [])
      turn none f = absurd (h (ap (λ (x : Outcome). x.number) (e ∙ first_passed n (lowest p k) [] f)))
      turn (some i) f =
          let low = some_lowest p k i f in
          let all : Least p l i =
          record { inside = omega (arith, low.inside); offends = low.offends; under = low.under } in
          e ∙ first_met n (lowest p k) i [] f ∙ search_found n all

-- ── A pass that keeps the lowest offender so far ──

abbrev pub kept_as : Maybe ℕ → Option ℕ
kept_as (Some i) = some i
kept_as None = none

kept_or : (o : Maybe ℕ) (b : Bool) (i : ℕ) → kept_as (option_or o (then_some b i)) ≡ or_else (kept_as o) b i
kept_or (Some j) b i = refl
kept_or None true i = refl
kept_or None false i = refl

module _ (p : ℕ → Bool) where
  -- what is kept stays, and else i is kept if it offends
  pub kept_more :
      (o : Maybe ℕ) {q r : Maybe ℕ} {b : Bool} (i : ℕ) → kept_as o ≡ lowest p i → b ≡ p i → q ≡ then_some b i → r ≡ option_or o q →
      kept_as r ≡ lowest p (suc i)
  unfolding lowest
  kept_more o {b = b} i k e f g =
      ap kept_as (g ∙ ap (option_or o) f) ∙ kept_or o b i ∙ ap (λ x. or_else x b i) k ∙ ap (λ c. or_else (lowest p i) c i) e

  pub kept_some : {o : Maybe ℕ} {k i : ℕ} → o ≡ Some i → kept_as o ≡ lowest p k → Least p k i
  kept_some {k = k} {i} e h = some_lowest p k i (sym h ∙ ap kept_as e)

  pub kept_none : {o : Maybe ℕ} {k : ℕ} → o ≡ None → kept_as o ≡ lowest p k → (i : ℕ) → i < k → p i ≡ false
  kept_none {k = k} e h = none_below p k (sym h ∙ ap kept_as e)
