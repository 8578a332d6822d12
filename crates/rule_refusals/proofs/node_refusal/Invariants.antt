use mathlib.Core.Path.{◌≡◌}
use mathlib.Core.Bool.{false}
use Prim.Native.Nat.{ℕ, ◌≤◌, ◌<◌, ◌-◌}
use Rattle.rule.specs.Bytes.{node_words}
use Rattle.outcome.specs.Answer.{number_of}
use Rattle.rule.specs.Rows.{offends}
use Rattle.rule_refusals.proofs.node_refusal.Given as goal

-- The invariant: no node before t offends. So the node that is found is the lowest.
abbrev pub invariant-loop-t : goal.invariant-loop-t
invariant-loop-t l =
    (u : ℕ) → u < l.t → offends (number_of l.fault) u (node_words l.rule u) ≡ false
