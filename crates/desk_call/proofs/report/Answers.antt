-- What is printed follows from the answer of the check.
use Prim.Native.Nat.{◌*◌, ◌≤◌}
use native.Mathlib.Omega.{arith}
use Rattle.append.proofs.Append.{at_front_text}
use Rattle.desk_call.proofs.Answer.{refusal_printed, listing_printed, chart_formed, rule_shaped, few_marks}
use Rattle.desk_call.proofs.report.Goals as goal

pub returns-then-outcome-ne0 : goal.returns-then-outcome-ne0
returns-then-outcome-ne0 c = let told = c.check-outcome.ensures in let e = refusal_printed _ _ told c.if-outcome-ne0.true in record { answer = told.answer; front = at_front_text e c.refuse-printed.ensures }

pub state_count-n-requires : goal.state_count-n-requires
state_count-n-requires c = (chart_formed _ _ c.check-outcome.ensures c.if-outcome-ne0.false).head.enough

pub node_count-k-requires : goal.node_count-k-requires
node_count-k-requires c = omega (arith, (rule_shaped _ _ c.check-outcome.ensures c.if-outcome-ne0.false).whole)

pub list-printed-requires : goal.list-printed-requires
list-printed-requires c = let told = c.check-outcome.ensures in let z = c.if-outcome-ne0.false in let n = c.state_count-n.ensures.0 in let k = c.node_count-k.ensures.0 in (omega (arith, (chart_formed _ _ told z).shape.few_states, n), omega (arith, (rule_shaped _ _ told z).few_nodes, k), omega (arith, (let it : c.node_count-k.result * c.state_count-n.result ≤ 16384 = let told = c.check-outcome.ensures in rw (c.node_count-k.ensures.0, c.state_count-n.ensures.0) (few_marks _ _ told c.if-outcome-ne0.false) in it)), omega arith)

pub returns : goal.returns
returns c = let n = c.state_count-n.ensures.0 in let k = c.node_count-k.ensures.0 in let told = c.check-outcome.ensures in let e = listing_printed _ _ told c.if-outcome-ne0.false n k in record { answer = told.answer; front = at_front_text e c.list-printed.ensures }
