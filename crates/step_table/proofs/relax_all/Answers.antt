-- Invariant: the row after is raised to the best of the arrows before i.
use mathlib.Core.Path.{◌≡◌, refl, ap, ◌∙◌}
use Prim.Native.Nat.{◌<◌}
use native.Mathlib.Omega.{arith}
use Rattle.base.proofs.Entries.{entries_as}
use Rattle.chart.specs.Bytes.{arrow_count}
use Rattle.chart.proofs.Reading.{arrow_ends}
use Rattle.step_table.proofs.Sweep.{raised_by, raised_none, low_relaxed, raised_more, raised_all}
use Rattle.step_table.proofs.relax_all.Goals as goal

pub loop-i-init : goal.loop-i-init
loop-i-init c = (refl, c.requires.1, λ measure w. raised_none measure _ _ _ _)

pub loop-i-preserved : goal.loop-i-preserved
loop-i-preserved c =
    let loop = c.loop-i in
    let p = c.requires in
    let i = loop.i in
    let l : i < arrow_count c.args.chart.bytes.now = omega (arith, c.args.chart.passed.arrows) in
    let ends = arrow_ends c.args.chart.passed i c.loop-i-test.true in
    let r = c.relax.ensures in (
      c.relax.auto.table ∙ loop.invariant.0,
      low_relaxed loop.invariant.1 r,
      λ measure w. raised_more measure _ _ _ _ i (loop.invariant.2 measure w) ends.0 ends.1 p.1.room (w.are i l) r,
    )

pub returns : goal.returns
returns c measure w =
    let a = c.args in
    let e : c.loop-i.i ≡ arrow_count a.chart.bytes.now = omega (arith, c.args.chart.passed.arrows) in
    let by = raised_by measure a.chart.bytes.now a.at a.chart.states a.table.now in
    entries_as (λ v l. ap (λ i. by i v) e ∙ raised_all measure a.chart.bytes.now a.at a.chart.states a.table.now v)
    (c.loop-i.invariant.2 measure w)
