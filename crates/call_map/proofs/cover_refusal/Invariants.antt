use mathlib.Core.Path.{◌≡◌}
use mathlib.Core.Bool.{false, not}
use Prim.Native.Nat.{ℕ, ◌≤◌, ◌<◌}
use Rattle.call_map.specs.Covered.{covered_at}
use Rattle.call_map.proofs.cover_refusal.Given as goal

-- Invariant: every detail arrow before i is covered, and near is an overview arrow or the number after the last.
abbrev pub invariant-loop-i : goal.invariant-loop-i
invariant-loop-i l =
    (l.near ≤ l.upper.arrows) ×
    ((j : ℕ) → j < l.i → not (covered_at l.detail l.overview l.map j) ≡ false)
