-- The invariant: no arrow before i has the fault of row 7, the lowest empty slot of them is kept, and the sets have what they
-- leave.
use mathlib.Core.Path.{◌≡◌, refl, sym, ap, subst, ◌∙◌}
use mathlib.Core.Bool.{false}
use mathlib.Core.List.{[], ◌∷◌}
use Prim.Native.Nat.{ℕ, ◌≤◌, ◌<◌}
use native.Mathlib.Omega.{arith}
use native.Mathlib.Numerals.{add-one}
use lib.Dec.{leb}
use borrow.Author.Count.{below_none, below_more}
use borrow.Author.Tests.{leb-false}
use Rattle.base.proofs.Truth.{or_false}
use Rattle.outcome.specs.Refusal.{lowest}
use Rattle.outcome.proofs.First.{err_part, ok_part}
use Rattle.outcome.proofs.Search.{search_found, search_ended, kept_more, kept_some, kept_none}
use Rattle.chart.specs.declared.ArrowWords.{ArrowWords}
use Rattle.chart.specs.Bytes.{arrow_words}
use Rattle.chart.specs.Refusals.{names_no_state, empty_slot}
use Rattle.chart.specs.Rows.{end_row, slot_row}
use Rattle.chart_refusals.specs.Leaves.{Leaves}
use Rattle.chart_refusals.proofs.Left.{left_none, left_put}
use Rattle.chart_refusals.proofs.seen_arrows.Goals as goal

-- an arrow of states that are there starts below n
starts_below : (n : ℕ) (a : ArrowWords) → names_no_state n a ≡ false → a.start < n
starts_below n a e = leb-false n a.start (or_false (leb n a.start) (leb n a.end) e).0

pub loop-i-init : goal.loop-i-init
unfolding lowest
loop-i-init c = (below_none _, refl, left_none _)

pub returns-then-names_no_state : goal.returns-then-names_no_state
returns-then-names_no_state c = err_part _ _ _ (c.at.ensures ∙ search_found 7 (record { inside = c.loop-i-test.true; offends = ap (names_no_state c.args.n) (sym c.arrow_at-a.ensures.0) ∙ sym c.names_no_state.ensures ∙ c.if-names_no_state.true; under = c.loop-i.invariant.0 }))

pub loop-i-preserved : goal.loop-i-preserved
unfolding lowest
loop-i-preserved c =
    let arrow = c.arrow_at-a in
    let s = c.args.chart.now in
    let n = c.args.n in
    let i = c.loop-i.i in
    let e : (arrow_words s i).start ≡ arrow.result.start = ap (λ (w : ArrowWords). w.start) (sym arrow.ensures.0) in
    let named = sym c.names_no_state.ensures ∙ c.if-names_no_state.false in
    let inside = starts_below n arrow.result named in (
      below_more _ i c.loop-i.invariant.0 (ap (names_no_state n) (sym arrow.ensures.0) ∙ named),
      rw (add-one i) (kept_more _ _ i c.loop-i.invariant.1 (c.empty_slot.ensures ∙ ap empty_slot arrow.ensures.0) c.then_some.ensures c.or-empty.ensures),
      rw (add-one i) (left_put s e (omega (arith, inside, c.requires.few_states)) c.with.ensures c.loop-i.invariant.2),
    )

-- the pass was over all arrows
passed : (k m : ℕ) → m ≤ k → k ≤ m → k ≡ m
passed k m l h = omega arith

pub at-requires-in-Some : goal.at-requires-in-Some
at-requires-in-Some c =
    let l = (kept_some _ c.in-Some.is c.loop-i.invariant.1).inside in
    omega (arith, c.requires.few_arrows, l)

pub returns-in-Some : goal.returns-in-Some
returns-in-Some c =
    let e = passed _ _ c.loop-i-test.false c.loop-i.auto.i-end in
    let ends = search_ended 7 (subst (λ k. (j : ℕ) → j < k → names_no_state c.args.n (arrow_words c.args.chart.now j) ≡ false) e c.loop-i.invariant.0) in
    ok_part (end_row c.args.chart.now c.args.n c.args.m ∷ []) (slot_row c.args.chart.now c.args.m ∷ []) tt ends
    (c.at-in-Some.ensures ∙ search_found 8 (kept_some _ c.in-Some.is (c.loop-i.invariant.1 ∙ ap (lowest _) e)))

pub returns-in-None : goal.returns-in-None
returns-in-None c =
    let e = passed _ _ c.loop-i-test.false c.loop-i.auto.i-end in
    let ends = search_ended 7 (subst (λ k. (j : ℕ) → j < k → names_no_state c.args.n (arrow_words c.args.chart.now j) ≡ false) e c.loop-i.invariant.0) in (
      ok_part (end_row c.args.chart.now c.args.n c.args.m ∷ []) (slot_row c.args.chart.now c.args.m ∷ []) tt ends
          (search_ended 8 (kept_none _ c.in-None.is (c.loop-i.invariant.1 ∙ ap (lowest _) e))),
      subst (λ k. Leaves c.args.chart.now k c.loop-i.left) e c.loop-i.invariant.2,
    )
