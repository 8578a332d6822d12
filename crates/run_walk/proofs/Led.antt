-- The links of a state lead to its arrows one after another, and the first that passes a test is the lowest.
use mathlib.Core.Path.{◌≡◌}
use mathlib.Core.Bool.{Bool, false}
use mathlib.Core.List.{List}
use Prim.Native.Nat.{ℕ, ◌<◌}
use native.Mathlib.Omega.{arith}
use native.Mathlib.Decide.{dec_lt}
use Rattle.chart.specs.Bytes.{arrow_words}
use Rattle.arrow_links.specs.Linked.{Lowest}

-- where the links lead: arrow i leaves s, if it is one, and no arrow below it passes
pub record Led (chart : List ℕ) (s : ℕ) (test : ℕ → Bool) (m i : ℕ) : Type 0 where
  pub leaves : i < m → (arrow_words chart i).start ≡ s
  pub under : (j : ℕ) → j < i → test j ≡ false

-- None passes below `low`, and none from there to the lowest that leaves s: those leave other states.
pub led :
    {chart : List ℕ} {s : ℕ} (test : ℕ → Bool) → ((j : ℕ) → ¬ ((arrow_words chart j).start ≡ s) → test j ≡ false) →
    {m low i : ℕ} → Lowest chart m s low i → ((j : ℕ) → j < low → test j ≡ false) → Led chart s test m i
led {chart} {s} test others {m} {low} {i} w h =
    record { leaves = w.leaves; under = λ j l. turn j l (dec_lt j low) }
  where
    turn : (j : ℕ) → j < i → Dec (j < low) → test j ≡ false
    turn j l (yes u) = h j u
    turn j l (no u) = others j (λ e. omega (arith, w.under j (omega arith) (omega (arith, w.most)) e))
