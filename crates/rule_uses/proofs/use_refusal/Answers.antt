-- The invariant: every node before v is used exactly once. So the node that is found is the lowest.
use mathlib.Core.Path.{sym, ap, ◌∙◌}
use mathlib.Core.Bool.{not}
use native.Mathlib.Omega.{arith}
use Rattle.outcome.proofs.Search.{search_found, search_ended}
use Rattle.rule_uses.proofs.use_refusal.Goals as goal

pub returns-then-not-used_once : goal.returns-then-not-used_once
returns-then-not-used_once c = c.at.ensures ∙ search_found 16 (record { inside = c.loop-v-test.true; offends = ap not (sym (c.used_once.ensures _ c.used_nodes-used.ensures) ∙ c.if-not-used_once.true); under = c.loop-v.invariant })

pub returns : goal.returns
returns c = search_ended 16 (λ u l. c.loop-v.invariant u (omega arith))
