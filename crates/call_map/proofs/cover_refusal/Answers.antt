-- Invariant: every detail arrow before i is covered, and near is an overview arrow or the number after the last.
use mathlib.Core.Path.{refl, sym, ap, ◌∙◌}
use native.Mathlib.Omega.{arith}
use Rattle.outcome.proofs.Search.{search_found, search_ended}
use Rattle.chart.specs.declared.ArrowWords.{ArrowWords}
use Rattle.chart.proofs.Arrow.{arrow_inside}
use Rattle.chart.proofs.Reading.{shaped, arrow_ends}
use Rattle.call_map.proofs.Tested.{covered_read}
use Rattle.call_map.proofs.cover_refusal.Goals as goal

pub arrow_at-a-requires : goal.arrow_at-a-requires
arrow_at-a-requires c = arrow_inside (shaped c.requires.0) c.loop-i-test.true

pub mapped_arrow-want-requires : goal.mapped_arrow-want-requires
mapped_arrow-want-requires c =
    let p = c.requires in
    let below = arrow_ends p.0 c.loop-i.i c.loop-i-test.true in
    let from = ap (λ (w : ArrowWords). w.start) c.arrow_at-a.ensures.0 in
    let to = ap (λ (w : ArrowWords). w.end) c.arrow_at-a.ensures.0 in
    (omega (arith, p.2.whole, below.0, from), omega (arith, p.2.whole, below.1, to), c.arrow_at-a.ensures.1)

pub returns-in-None : goal.returns-in-None
returns-in-None c =
    let all = c.requires.0.arrows in
    let e =
    covered_read _ _ c.args.map.now _ c.arrow_at-a.ensures.0 c.mapped_arrow-want.ensures.0
    (sym c.in-None.ensures) refl in
    c.at.ensures ∙
    search_found 23 (record { inside = omega (arith, all); offends = e; under = c.loop-i.invariant.1 })

pub returns : goal.returns
returns c =
    let all = c.requires.0.arrows in
    search_ended 23 (λ v l. c.loop-i.invariant.1 v (omega (arith, all)))
