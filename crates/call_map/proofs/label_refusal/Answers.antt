-- Invariant: no labels before state d differ.
use mathlib.Core.Path.{refl, ◌∙◌}
use native.Mathlib.Omega.{arith}
use Rattle.outcome.proofs.Search.{search_found, search_ended}
use Rattle.chart.specs.Shape.{Passed}
use Rattle.chart.proofs.Reading.{labels_inside}
use Rattle.call_map.proofs.Tested.{labels_told}
use Rattle.call_map.proofs.label_refusal.Goals as goal

pub label_word-own-requires : goal.label_word-own-requires
label_word-own-requires c = omega (arith, labels_inside c.requires.0)

pub label_word-requires : goal.label_word-requires
label_word-requires c =
    let named = c.requires.1 in
    let overview : Passed _ _ _ = record { states = refl; arrows = refl; unrefused = named.0 } in
    let inside = named.1.inside c.loop-d.d c.loop-d-test.true in
    omega (arith, labels_inside overview, inside, c.entry_at-e.ensures.0)

pub returns-then-own-label_word : goal.returns-then-own-label_word
returns-then-own-label_word c =
    let all = c.requires.0.states in
    let a = c.args in
    let told =
    labels_told a.detail.now a.overview.now a.map.now c.loop-d.d c.label_word-own.ensures.0 c.entry_at-e.ensures.0
    c.label_word.ensures.0 in
    let e = told.0 c.if-own-label_word.true in
    c.at.ensures ∙
    search_found 22 (record { inside = omega (arith, all); offends = e; under = c.loop-d.invariant })

pub returns : goal.returns
returns c =
    let all = c.requires.0.states in
    search_ended 22 (λ v l. c.loop-d.invariant v (omega (arith, all)))
