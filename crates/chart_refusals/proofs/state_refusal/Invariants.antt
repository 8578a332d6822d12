use mathlib.Core.Path.{◌≡◌}
use mathlib.Core.Bool.{false, not}
use Prim.Native.Nat.{ℕ, ◌≤◌, ◌<◌, ◌-◌, ◌/◌, ◌%◌}
use lib.ListN.{get_or}
use Rattle.masks.specs.Member.{member}
use Rattle.chart_refusals.proofs.state_refusal.Given as goal

-- The invariant: every state before v is in its set. So the state that is found is the lowest.
abbrev pub invariant-loop-v : goal.invariant-loop-v
invariant-loop-v l =
    (u : ℕ) → u < l.v → not (member (get_or l.left (u / 64) 0) (u % 64)) ≡ false
