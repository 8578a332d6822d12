-- The detail's rows, the overview's, and those of the map.
use mathlib.Core.Path.{refl, sym, ap, ◌∙◌}
use Rattle.outcome.specs.declared.Outcome.{Outcome}
use Rattle.outcome.specs.Entry.{overview}
use Rattle.outcome.specs.Refusal.{outcome}
use Rattle.outcome.proofs.First.{part_zero, fault_number}
use Rattle.loops.proofs.Accepted.{chart_passed}
use Rattle.call_map.proofs.Overview.{overview_refuses, overview_passes}
use Rattle.call_map.proofs.Chain.{lower_refuses, upper_refuses, map_next}
use Rattle.call_map.proofs.map_check.Goals as goal

pub returns-in-Err : goal.returns-in-Err
returns-in-Err c = c.from.ensures ∙ lower_refuses _ _ _ c.in-Err.ensures (fault_number _)

pub returns-in-Err-accepted_refusal : goal.returns-in-Err-accepted_refusal
returns-in-Err-accepted_refusal c =
    let own = c.in-Err-accepted_refusal in
    let other = c.of_overview.ensures ∙ ap (λ (o : Outcome). outcome o.number o.place overview) c.from-in-Err-accepted_refusal.ensures in
    upper_refuses _ _ _ c.in_default.ensures refl (overview_refuses _ own.ensures (fault_number _) other)
    (λ z. fault_number own.own.fault (sym (ap (λ (o : Outcome). o.number) other) ∙ z))

pub map_refusal-requires : goal.map_refusal-requires
map_refusal-requires c =
    let below = part_zero _ c.in_default.ensures refl in
    let above = part_zero _ c.in_default-accepted_refusal.ensures refl in
    (chart_passed _ below, chart_passed _ above)

pub returns : goal.returns
returns c =
    c.from-2.ensures ∙
    map_next _ _ _ c.in_default.ensures refl
    (overview_passes _ c.in_default-accepted_refusal.ensures refl refl) refl c.map_refusal.ensures
