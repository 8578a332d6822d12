-- Invariant: the links lead to i, and the arrows from s below it were added.
use mathlib.Core.Path.{subst}
use Prim.Native.Nat.{◌+◌, ◌<◌}
use native.Mathlib.Omega.{arith}
use Rattle.model.specs.Engine.{num}
use Rattle.chart.proofs.Reading.{shaped}
use Rattle.arrow_links.specs.Linked.{Lowest}
use Rattle.moves.proofs.Turns.{few_arrows, adding_none, adding_gap, adding_more, adding_all}
use Rattle.moves.proofs.with_state.Goals as goal

pub loop-i-init : goal.loop-i-init
loop-i-init c =
    let p = c.requires in
    let passed = c.args.chart.passed in adding_none (few_arrows passed) passed.arrows (p.0.first c.args.s p.1)

pub with_arrow-grown-requires : goal.with_arrow-grown-requires
with_arrow-grown-requires c =
    let p = c.requires in
    let passed = c.args.chart.passed in
    let few = (shaped passed).few_states in
    let joined = c.arrow-a.ensures.1 in
    let v = c.loop-i.invariant.are p.2.goes p.2.says p.2.are in (
      record { start = omega (arith, joined.start, few); end = omega (arith, joined.end, few) },
      adding_gap (few_arrows passed) passed.arrows c.loop-i.invariant c.loop-i-test.true p.2,
      omega (arith, v.size, v.are.back),
    )

-- There is room for the arrow, and its link leads to the next.
pub loop-i-preserved : goal.loop-i-preserved
loop-i-preserved c =
    let p = c.requires in
    let a = c.args in
    let few = few_arrows a.chart.passed in
    let l = c.loop-i-test.true in
    let inv = c.loop-i.invariant in
    let between : c.loop-i.grown.front < c.loop-i.grown.back = adding_gap few a.chart.passed.arrows inv l p.2 in
    let next =
    subst (λ s. Lowest a.chart.bytes.now a.chart.arrows s (c.loop-i.i + 1) (num a.nexts.now c.loop-i.i)) (inv.leaves l)
    (p.0.next c.loop-i.i (omega arith) l) in
    adding_more few a.chart.passed.arrows inv l between c.arrow-a.ensures.0 c.with_arrow-grown.ensures next

pub returns : goal.returns
returns c =
    let passed = c.args.chart.passed in
    adding_all (few_arrows passed) passed.arrows (omega (arith, c.loop-i-test.false)) c.loop-i.invariant
