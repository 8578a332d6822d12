use mathlib.Core.Path.{◌≡◌}
use mathlib.Core.Bool.{false}
use Prim.Native.Nat.{ℕ, ◌≤◌, ◌<◌, ◌-◌}
use Rattle.rule.specs.Bytes.{node_words}
use Rattle.rule.specs.Refusals.{is_exact}
use Rattle.rule_refusals.proofs.has_exact.Given as goal

-- The invariant: no node before t has an exact bound.
abbrev pub invariant-loop-t : goal.invariant-loop-t
invariant-loop-t l =
    (u : ℕ) → u < l.t → is_exact (node_words l.rule u) ≡ false
