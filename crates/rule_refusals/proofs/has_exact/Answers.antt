-- The invariant: no node before t has an exact bound.
use mathlib.Core.Path.{sym, ap, ◌∙◌}
use native.Mathlib.Omega.{arith}
use borrow.Author.Tests.{eq-eqb}
use Rattle.rule.specs.Refusals.{is_exact}
use Rattle.rule.proofs.Accepted.{accepted}
use Rattle.rule.proofs.Exact.{none_exact, exact_some}
use Rattle.rule_refusals.proofs.has_exact.Goals as goal

pub node_count-k-requires : goal.node_count-k-requires
node_count-k-requires c = omega (arith, (accepted _ c.requires).shape.whole)

pub node_at-requires : goal.node_at-requires
node_at-requires c = omega (arith, c.node_count-k.ensures.0, (accepted _ c.requires).shape.whole)

pub returns-then-node_at-eq-EXACTLY : goal.returns-then-node_at-eq-EXACTLY
returns-then-node_at-eq-EXACTLY c = sym (exact_some _ _ c.loop-t.t (omega (arith, c.node_count-k.ensures.0)) (ap is_exact (sym c.node_at.ensures.0) ∙ eq-eqb _ 3 c.if-node_at-eq-EXACTLY.true))

pub returns : goal.returns
returns c = sym (none_exact _ _ (λ t l. c.loop-t.invariant t (omega (arith, c.node_count-k.ensures.0))))
