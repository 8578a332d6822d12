-- Row 20, then the others.
use mathlib.Core.Path.{refl}
use Rattle.std.proofs.lemmas.Result.{err_from_is_err_and}
use Rattle.outcome.proofs.First.{fault_number}
use Rattle.map.proofs.Passed.{map_whole}
use Rattle.call_map.proofs.Chain.{form_stops, mapped_next}
use Rattle.call_map.proofs.map_refusal.Goals as goal

pub returns-in_err-form_refusal : goal.returns-in_err-form_refusal
returns-in_err-form_refusal c =
    let p = err_from_is_err_and c.from_residual.result c.from_residual.ensures.1 in
    rw (p.1, p.2) (form_stops _ _ _ c.sizes_of-lower.ensures.states c.in_err-form_refusal.ensures (fault_number _))

pub mapped_refusal-requires : goal.mapped_refusal-requires
mapped_refusal-requires c =
    let whole = map_whole _ _ c.in_ok-form_refusal.ensures refl in
    (c.sizes_of-lower.ensures, c.sizes_of-upper.ensures, whole)

pub returns : goal.returns
returns c =
    mapped_next _ _ _ c.sizes_of-lower.ensures.states c.in_ok-form_refusal.ensures refl
    c.mapped_refusal.ensures
