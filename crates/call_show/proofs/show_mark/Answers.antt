-- Check, rows 60 and 61, then the run in scratch: each answer is one of show's.
use mathlib.Core.Path.{refl}
use mathlib.Core.Logic.{inl}
use native.Mathlib.Omega.{arith}
use Rattle.std.proofs.lemmas.Result.{err_from_is_err_and}
use Rattle.outcome.proofs.First.{fault_number}
use Rattle.chart.proofs.WellFormed.{well_formed}
use Rattle.rule.proofs.Accepted.{accepted}
use Rattle.judge.proofs.Promise.{cleared_admitted}
use Rattle.call_show.proofs.Answers.{check_showed, markable, mark_showed, node_whole, searchable, unfit_showed, run_showed}
use Rattle.call_show.proofs.show_mark.Goals as goal

pub returns-in_err-judge : goal.returns-in_err-judge
returns-in_err-judge c =
    let p = err_from_is_err_and c.from_residual.result c.from_residual.ensures.1 in
    rw (p.1, p.2) (check_showed c.in_err-judge.ensures _ _ _ (fault_number _))

-- check has accepted
pub state_count-requires : goal.state_count-requires
state_count-requires c =
    let passed = cleared_admitted c.in_ok-judge.ensures (inl refl) in
    (well_formed _ passed.of_chart).head.enough

pub invariant_of-chart : goal.invariant_of-chart
invariant_of-chart c =
    let passed = cleared_admitted c.in_ok-judge.ensures (inl refl) in
    record {
      passed =
          record { states = c.state_count.ensures.0; arrows = c.arrow_count.ensures.0; unrefused = passed.of_chart };
    }

pub node_count-k-requires : goal.node_count-k-requires
node_count-k-requires c =
    let passed = cleared_admitted c.in_ok-judge.ensures (inl refl) in
    omega (arith, (accepted _ passed.of_rule).shape.whole)

pub mark_refusal-requires : goal.mark_refusal-requires
mark_refusal-requires c =
    let a = c.args in
    markable c.in_ok-judge.ensures a.node a.state a.output.now refl c.state_count.ensures.0
    c.node_count-k.ensures.0

pub returns-in_err-mark_refusal : goal.returns-in_err-mark_refusal
returns-in_err-mark_refusal c =
    let from = c.from_residual-in_err-mark_refusal in
    let p = err_from_is_err_and from.result from.ensures.1 in
    rw (p.1, p.2)
    (mark_showed c.in_ok-judge.ensures _ _ _ refl c.state_count.ensures.0 c.node_count-k.ensures.0
    c.in_err-mark_refusal.ensures (fault_number _))

pub arrow_count-requires : goal.arrow_count-requires
arrow_count-requires c =
    let passed = cleared_admitted c.in_ok-judge.ensures (inl refl) in
    (well_formed _ passed.of_chart).head.enough

pub node_at-w-requires : goal.node_at-w-requires
node_at-w-requires c =
    let a = c.args in
    node_whole c.in_ok-judge.ensures a.node a.state a.output.now refl c.state_count.ensures.0
    c.node_count-k.ensures.0 c.in_ok-mark_refusal.ensures refl

pub write_run-requires : goal.write_run-requires
write_run-requires c =
    let a = c.args in
    searchable c.in_ok-judge.ensures a.node a.state a.output.now refl c.state_count.ensures.0
    c.node_count-k.ensures.0 c.in_ok-mark_refusal.ensures refl c.node_at-w.ensures.0
    c.node_at-w.ensures.1.c c.arrow_count.ensures.0

pub returns-in_default : goal.returns-in_default
returns-in_default c =
    unfit_showed c.in_ok-judge.ensures _ _ _ refl c.state_count.ensures.0
    c.node_count-k.ensures.0 c.in_ok-mark_refusal.ensures refl c.node_at-w.ensures.0
    c.node_at-w.ensures.1.c c.arrow_count.ensures.0 c.write_run.ensures.0 c.write_run.ensures.1
    c.at.ensures c.in_default.is

pub returns : goal.returns
returns c =
    run_showed c.in_ok-judge.ensures _ _ _ refl c.state_count.ensures.0
    c.node_count-k.ensures.0 c.in_ok-mark_refusal.ensures refl c.node_at-w.ensures.0
    c.node_at-w.ensures.1.c c.arrow_count.ensures.0 c.write_run.ensures.0 c.write_run.ensures.1
    refl c.in-Some.is
