use mathlib.Core.Path.{◌≡◌}
use mathlib.Core.Bool.{false}
use Prim.Native.Nat.{ℕ, ◌<◌}
use Rattle.outcome.specs.Refusal.{lowest}
use Rattle.outcome.proofs.Search.{kept_as}
use Rattle.chart.specs.Bytes.{arrow_words}
use Rattle.chart.specs.Refusals.{names_no_state, empty_slot}
use Rattle.chart_refusals.specs.Leaves.{Leaves}
use Rattle.chart_refusals.proofs.seen_arrows.Given as goal

-- The invariant: no arrow before i has the fault of row 7, the lowest empty slot of them is kept, and the sets have what they
-- leave.
abbrev pub invariant-loop-i : goal.invariant-loop-i
invariant-loop-i l =
    ((j : ℕ) → j < l.i → names_no_state l.n (arrow_words l.chart j) ≡ false) ×
    (kept_as l.empty ≡ lowest (λ j. empty_slot (arrow_words l.chart j)) l.i) × Leaves l.chart l.i l.left
