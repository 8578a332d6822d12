use mathlib.Core.Path.{◌≡◌}
use mathlib.Core.Bool.{false, not}
use Prim.Native.Nat.{ℕ, ◌<◌}
use lib.Dec.{eqb}
use Rattle.rule.specs.Refusals.{uses}
use Rattle.rule_uses.proofs.use_refusal.Given as goal

-- The invariant: every node before v is used exactly once. So the node that is found is the lowest.
abbrev pub invariant-loop-v : goal.invariant-loop-v
invariant-loop-v l =
    (u : ℕ) → u < l.v → not (eqb (uses l.rule l.k u) 1) ≡ false
