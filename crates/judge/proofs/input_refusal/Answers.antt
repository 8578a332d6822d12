-- The chart's rows, the rule's, 63, then those of the room lent.
use mathlib.Core.Path.{refl, ap, ◌∙◌}
use Rattle.std.proofs.lemmas.Result.{err_from_is_err_and}
use Rattle.outcome.proofs.First.{fault_number}
use native.Mathlib.Omega.{arith}
use Rattle.loops.proofs.Chain.{chart_whole, chart_small}
use Rattle.room.specs.Room.{size_for}
use Rattle.judge.proofs.Chain.{chart_refuses, rule_refuses, own_refuses, rule_whole, rule_small, room_next}
use Rattle.judge.proofs.input_refusal.Goals as goal

pub returns-in_err-chart_refusal : goal.returns-in_err-chart_refusal
returns-in_err-chart_refusal c =
    let a = c.args in
    let p = err_from_is_err_and c.from_residual.result c.from_residual.ensures.1 in
    rw (p.1, p.2) (chart_refuses a.counting a.chart.now a.rule.now a.marks.now a.scratch.now c.in_err-chart_refusal.ensures (fault_number _))

pub returns-in_err-rule_refusal : goal.returns-in_err-rule_refusal
returns-in_err-rule_refusal c =
    let a = c.args in
    let p = err_from_is_err_and c.from_residual-in_err-rule_refusal.result c.from_residual-in_err-rule_refusal.ensures.1 in
    rw (p.1, p.2) (rule_refuses a.counting a.chart.now a.rule.now a.marks.now a.scratch.now c.in_ok-chart_refusal.ensures refl c.in_err-rule_refusal.ensures (fault_number _))

pub returns-in_err-own_refusal : goal.returns-in_err-own_refusal
returns-in_err-own_refusal c =
    let a = c.args in
    let p = err_from_is_err_and c.from_residual-in_err-own_refusal.result c.from_residual-in_err-own_refusal.ensures.1 in
    rw (p.1, p.2) (own_refuses a.counting a.chart.now a.rule.now a.marks.now a.scratch.now c.in_ok-chart_refusal.ensures refl c.in_ok-rule_refusal.ensures refl c.in_err-own_refusal.ensures (fault_number _))

pub state_count-n-requires : goal.state_count-n-requires
state_count-n-requires c = chart_whole _ c.in_ok-chart_refusal.ensures refl

pub node_count-k-requires : goal.node_count-k-requires
node_count-k-requires c = rule_whole _ c.in_ok-rule_refusal.ensures refl

pub scratch_size-size-requires : goal.scratch_size-size-requires
scratch_size-size-requires c =
    let n = chart_small _ c.in_ok-chart_refusal.ensures refl in
    omega (arith, n, c.state_count-n.ensures.0)

pub room_refusal-requires : goal.room_refusal-requires
room_refusal-requires c =
    let n = chart_small _ c.in_ok-chart_refusal.ensures refl in
    let k = rule_small _ c.in_ok-rule_refusal.ensures refl in
    (omega (arith, n, c.state_count-n.ensures.0), omega (arith, k, c.node_count-k.ensures.0))

pub returns : goal.returns
returns c =
    let a = c.args in
    room_next a.counting a.chart.now a.rule.now a.marks.now a.scratch.now c.in_ok-chart_refusal.ensures refl c.in_ok-rule_refusal.ensures refl c.in_ok-own_refusal.ensures refl c.state_count-n.ensures.0 c.node_count-k.ensures.0
    (c.scratch_size-size.ensures ∙ ap (λ b. size_for b c.state_count-n.result) c.minutely-minutely.ensures)
    c.room_refusal.ensures
