use Rattle.rule.specs.Refusals.{uses}
use Rattle.rule_uses.specs.Counted.{Counted}
use Rattle.rule_uses.proofs.used_nodes.Given as goal

-- The invariant: the sets count what the first t nodes use.
abbrev pub invariant-loop-t : goal.invariant-loop-t
invariant-loop-t l =
    Counted l.used (uses l.rule l.t)
