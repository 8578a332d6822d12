-- Invariant: the numbers are on their way, after so many sweeps, and the arrows before the floor raise none.
use mathlib.Core.Path.{◌≡◌, refl, sym, ap, ◌∙◌}
use mathlib.Core.Bool.{Bool, cond}
use Prim.Native.Nat.{ℕ, ◌≤◌}
use native.Mathlib.Omega.{arith}
use borrow.Author.Tests.{leb-true}
use Rattle.std.specs.Prelude.{is_some}
use Rattle.hints.specs.Values.{values}
use Rattle.visits.specs.Moves.{Ready, left}
use Rattle.sweeps.specs.Sweep.{Still}
use Rattle.engine.proofs.OnTheWay.{OnTheWay, still_kept, way_none, way_rest, way_ran, way_done, way_next}
use Rattle.engine.proofs.rise.Goals.{After-sweep, then-track, else-track}
use Rattle.engine.proofs.rise.Goals as goal

-- Numbers that went along the hints are still on their way, no farther from the end, and what was known of arrows is
-- known of those before the next sweep's floor.
ran :
    (c : After-sweep) (go : ℕ → Bool) → Ready c.args.way go c.args.numbers.now →
    OnTheWay c.args.way c.args.chart.bytes.now go c.loop-way.done c.args.numbers.now c.along-track.new.numbers ×
    (left c.args.way (values c.along-track.new.numbers) ≤ left c.args.way (values c.loop-way.numbers)) ×
    Still c.args.way c.args.chart.bytes.now go 0 c.if-track.known (values c.along-track.new.numbers)
ran c go r =
    let p = c.requires.given in
    let before = c.loop-way.invariant.4 go r in
    let u = way_ran _ c.args.chart.passed go _ p.size (leb-true _ _) _ _ c.hurried-pace.ensures before.0
    c.along-track.ensures in
    let kept : ℕ → Bool → ℕ = λ floor b. cond b 0 floor in
    let known : c.if-track.known ≡ kept c.loop-way.floor c.along-track.result.moved =
    elim c.if-track.branch [
      | then-track w ↦ w.known-is ∙ sym (ap (kept c.loop-way.floor) w.if-track.true)
      | else-track w ↦ w.known-is ∙ sym (ap (kept c.loop-way.floor) w.if-track.false)
    ] in
    (u.0, u.1, still_kept _ _ go _ _ u.2 before.1 known)

pub loop-way-init : goal.loop-way-init
loop-way-init c =
    let p = c.requires in (
      omega arith,
      omega arith,
      refl,
      p.given.size,
      λ go r. (way_none _ c.args.chart.passed go _ p.given.size r, λ i z l. absurd (let y : ⊥ = omega arith in y)),
    )

pub returns-then-at_rest : goal.returns-then-at_rest
returns-then-at_rest c go r =
    let inv = c.loop-way.invariant in
    let p = c.requires.given in
    let u = way_ran _ c.args.chart.passed go _ p.size (leb-true _ _) _ _ c.hurried-pace.ensures (inv.4 go r).0
    c.along-track.ensures in
    way_rest _ c.args.chart.passed go _ p.size _ c.if-at_rest.true p.fits (omega (arith, inv.3)) u.0 c.at_rest.ensures

pub returns-in_default : goal.returns-in_default
returns-in_default c go r =
    let p = c.requires.given in
    let u = ran (goal.at.returns-in_default c).After-sweep go r in
    way_done _ c.args.chart.passed go _ p.size (leb-true _ _) _ _ c.hurried-pace.ensures u.0 u.2 c.sweep.ensures
    (ap is_some c.in_default.is)

pub loop-way-smaller : goal.loop-way-smaller
loop-way-smaller c =
    let s = c.requires in
    let p = s.given in
    let u = ran (goal.at.loop-way-smaller c).After-sweep s.go s.ready in
    let w = way_next _ c.args.chart.passed s.go _ p.size (leb-true _ _) _ _ c.hurried-pace.ensures u.0 u.2
    c.sweep.ensures 0 c.in-Some.is (omega arith) in
    omega (arith, u.1, w.1)

pub loop-way-preserved : goal.loop-way-preserved
loop-way-preserved c =
    let inv = c.loop-way.invariant in
    let p = c.requires.given in (
      omega (arith, c.min-done.ensures),
      rw c.in-Some.is at c.sweep.ensures.low,
      omega (arith, inv.2),
      omega (arith, inv.3),
      λ go r.
          let u = ran (goal.at.loop-way-preserved c).After-sweep go r in
          let w = way_next _ c.args.chart.passed go _ p.size (leb-true _ _) _ _ c.hurried-pace.ensures u.0 u.2
          c.sweep.ensures c.min-done.result c.in-Some.is (omega (arith, c.min-done.ensures)) in
          (w.0, w.2),
    )
