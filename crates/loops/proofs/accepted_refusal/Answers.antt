-- Checks 1 to 9, then row 19 on the first n numbers of a local array.
use mathlib.Core.Path.{refl, sym}
use native.Mathlib.Omega.{arith}
use lib.Seq.{length-take-le}
use Rattle.std.proofs.lemmas.Result.{err_from_is_err_and}
use Rattle.loops.proofs.Chain.{chart_refuses, chart_whole, chart_small, chart_counted, loop_next}
use Rattle.loops.proofs.accepted_refusal.Goals as goal

pub returns-in_err-chart_refusal : goal.returns-in_err-chart_refusal
returns-in_err-chart_refusal c = let p = err_from_is_err_and c.from_residual.result c.from_residual.ensures.1 in rw
    (p.1, p.2) (chart_refuses _ _ c.in_err-chart_refusal.ensures)

pub state_count-states-requires : goal.state_count-states-requires
state_count-states-requires c = chart_whole _ c.in_ok-chart_refusal.ensures refl

pub arrow_count-arrows-requires : goal.arrow_count-arrows-requires
arrow_count-arrows-requires c = chart_whole _ c.in_ok-chart_refusal.ensures refl

pub slice_bounds-numbers-end : goal.slice_bounds-numbers-end
slice_bounds-numbers-end c =
    let few = chart_small _ c.in_ok-chart_refusal.ensures refl in
    omega (arith, few, c.state_count-states.ensures.0)

pub slice_bounds-loop_refusal-end : goal.slice_bounds-loop_refusal-end
slice_bounds-loop_refusal-end c =
    let few = chart_small _ c.in_ok-chart_refusal.ensures refl in
    sym (length-take-le c.state_count-states.result _ (omega (arith, few, c.state_count-states.ensures.0)))

pub invariant_of-shown : goal.invariant_of-shown
invariant_of-shown c =
    record {
      passed =
          chart_counted _ c.in_ok-chart_refusal.ensures refl c.state_count-states.ensures.0
          c.arrow_count-arrows.ensures.0;
    }

pub loop_refusal-requires : goal.loop_refusal-requires
loop_refusal-requires c =
    let few = chart_small _ c.in_ok-chart_refusal.ensures refl in
    length-take-le c.state_count-states.result _ (omega (arith, few, c.state_count-states.ensures.0))

pub returns : goal.returns
returns c = loop_next _ c.in_ok-chart_refusal.ensures refl c.loop_refusal.ensures
