-- The nodes of a rule that passes rows 10 to 16 are tried one by one.
use mathlib.Core.Path.{sym, ap, subst, ◌∙◌}
use mathlib.Core.List.{[], ◌∷◌}
use native.Mathlib.Omega.{arith}
use Rattle.outcome.specs.Refusal.{first}
use Rattle.rule.specs.Shape.{Shape}
use Rattle.rule.specs.Refusals.{bound_row}
use Rattle.rule.specs.Rows.{node_row}
use Rattle.rule.proofs.Accepted.{accepted}
use Rattle.rule_refusals.proofs.bound_refusal.Goals as goal

pub node_count-k-requires : goal.node_count-k-requires
node_count-k-requires c = omega (arith, (accepted _ c.requires).shape.whole)

pub node_refusal-requires : goal.node_refusal-requires
node_refusal-requires c = subst (Shape c.args.rule.now) (sym c.node_count-k.ensures.0) (accepted _ c.requires).shape

pub returns : goal.returns
unfolding bound_row
returns c = let rule = c.args.rule.now in c.node_refusal.ensures ∙ ap (λ k. first (node_row 63 rule k ∷ [])) c.node_count-k.ensures.0
