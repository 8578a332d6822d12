use mathlib.Core.Path.{◌≡◌}
use mathlib.Core.Bool.{false}
use Prim.Native.Nat.{ℕ, ◌<◌}
use Rattle.call_map.specs.Refusals.{labels_differ}
use Rattle.call_map.proofs.label_refusal.Given as goal

-- Invariant: no labels before state d differ.
abbrev pub invariant-loop-d : goal.invariant-loop-d
invariant-loop-d l =
    (v : ℕ) → v < l.d → labels_differ l.detail l.overview l.map v ≡ false
