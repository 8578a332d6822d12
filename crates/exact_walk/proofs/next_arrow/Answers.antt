-- Invariant: the links lead to i, an arrow from s or none, and no arrow below it serves.
use mathlib.Core.Path.{◌≡◌, ap, subst, ◌∙◌}
use Prim.Native.Nat.{◌+◌}
use native.Mathlib.Omega.{arith}
use borrow.Author.Count.{below_more}
use Rattle.model.specs.Engine.{num}
use Rattle.chart.specs.Bytes.{arrow_of}
use Rattle.arrow_links.specs.Linked.{Lowest}
use Rattle.run_walk.proofs.Led.{led}
use Rattle.exact_walk.proofs.Next.{serves_others, serves_found, serves_not, next_found, next_some}
use Rattle.exact_walk.proofs.next_arrow.Goals as goal

-- the arrow that is read leaves s
pub returns-in-Some-clause-arrow : goal.returns-in-Some-clause-arrow
returns-in-Some-clause-arrow c =
    let a = c.args in
    let i = c.loop-i.i in
    let inv = c.loop-i.invariant in
    let l = c.loop-i-test.true in
    let read = c.arrow-a.ensures.0 in
    let own : c.arrow-a.result.start ≡ a.s = ap (λ w. w.start) read ∙ inv.leaves l in
    ap arrow_of read ∙
    next_found a.chart.bytes.now a.chart.states a.table.now a.left a.minutes a.s i
    (omega (arith, l, a.chart.passed.arrows))
    (serves_found a.chart.bytes.now a.chart.states a.table.now a.left a.minutes a.s i read own c.in-Some.ensures)
    inv.under

-- what the arrow's link leads to
pub loop-i-preserved : goal.loop-i-preserved
loop-i-preserved c =
    let a = c.args in
    let p = c.requires in
    let i = c.loop-i.i in
    let inv = c.loop-i.invariant in
    let l = c.loop-i-test.true in
    let read = c.arrow-a.ensures.0 in
    let own : c.arrow-a.result.start ≡ a.s = ap (λ w. w.start) read ∙ inv.leaves l in
    let next =
    subst (λ s. Lowest a.chart.bytes.now a.chart.arrows s (i + 1) (num a.nexts.now i)) (inv.leaves l)
    (p.0.next i (omega arith) l) in
    led _ (serves_others a.chart.bytes.now a.chart.states a.table.now a.left a.minutes a.s) next
    (below_more _ i inv.under
    (serves_not a.chart.bytes.now a.chart.states a.table.now a.left a.minutes a.s i read own c.in_default.ensures))

pub unreachable-requires : goal.unreachable-requires
unreachable-requires c =
    let a = c.args in
    let p = c.requires in
    next_some a.chart.bytes.now a.chart.states a.table.now a.left a.minutes a.s p.3
    (λ j l. c.loop-i.invariant.under j (omega (arith, c.loop-i-test.false, c.args.chart.passed.arrows)))
