-- The invariant: the sets count what the first t nodes use.
use mathlib.Core.Path.{ap}
use Prim.Native.Nat.{◌+◌}
use native.Mathlib.Numerals.{add-one}
use Rattle.masks.proofs.Member.{member_none}
use Rattle.base.specs.Sum.{sum}
use Rattle.rule.specs.Refusals.{uses_in, uses}
use Rattle.rule_uses.proofs.Counted.{counted_same}
use Rattle.rule_uses.proofs.used_nodes.Goals as goal

pub loop-t-init : goal.loop-t-init
unfolding uses sum
loop-t-init c = record { once = record { tells = λ v l. member_none v }; again = record { tells = λ v l. member_none v } }

pub loop-t-preserved : goal.loop-t-preserved
unfolding uses sum
loop-t-preserved c =
    let s = c.args.rule.now in
    let t = c.loop-t.t in
    let more = c.with_operands-used.ensures (uses s t) c.loop-t.invariant in
    rw (add-one t) (counted_same more (λ v. ap (λ w. uses s t v + uses_in v w) c.node_at-w.ensures.0))
