-- Two functions on numbers in a row.
use mathlib.Core.Path.{◌≡◌, subst}
use mathlib.Core.Bool.{not}
use mathlib.Core.Option.{none}
use Prim.Native.Nat.{ℕ, ◌+◌, ◌-◌, ◌≤◌, ◌<◌}
use native.Mathlib.Omega.{arith}
use lib.Dec.{eqb}
use Rattle.base.proofs.Compare.{not_differ_iff}
use Rattle.outcome.specs.Refusal.{lowest}
use Rattle.outcome.proofs.Lowest.{none_below}

-- they agree on k numbers from low on, if none is found at which they differ: that search is computed
pub agree :
    (f g : ℕ → ℕ) (low k : ℕ) → lowest (λ i. not (eqb (f (low + i)) (g (low + i)))) k ≡ none →
    {n : ℕ} → low ≤ n → n < low + k → f n ≡ g n
agree f g low k none_other {n} l h =
    let same : low + (n - low) ≡ n = omega arith in
    let found = none_below (λ i. not (eqb (f (low + i)) (g (low + i)))) k none_other (n - low) (omega arith) in
    subst (λ m. f m ≡ g m) same ((not_differ_iff _ _).0 found)
