-- The invariant: no node before t offends. So the node that is found is the lowest.
use mathlib.Core.Path.{sym, ap, ◌∙◌}
use native.Mathlib.Omega.{arith}
use Rattle.outcome.proofs.Search.{search_found, search_ended}
use Rattle.outcome.specs.Answer.{number_of}
use Rattle.rule.specs.Rows.{offends}
use Rattle.rule_refusals.proofs.node_refusal.Goals as goal

pub returns-then-offending : goal.returns-then-offending
returns-then-offending c = c.at.ensures ∙ search_found _ (record { inside = c.loop-t-test.true; offends = ap (offends (number_of c.args.fault) c.loop-t.t) (sym c.node_at-w.ensures.0) ∙ sym c.offending.ensures ∙ c.if-offending.true; under = c.loop-t.invariant })

pub returns : goal.returns
returns c = search_ended _ (λ u l. c.loop-t.invariant u (omega arith))
