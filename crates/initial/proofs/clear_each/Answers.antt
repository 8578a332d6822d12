-- Invariant: the first i arrows were tried.
use native.Mathlib.Omega.{arith}
use Rattle.initial.proofs.Cleared.{cleared_none, cleared_more, cleared_all, cleared_sured, chosen}
use Rattle.initial.proofs.clear_each.Goals as goal

pub loop-i-init : goal.loop-i-init
loop-i-init c = cleared_none

pub loop-i-preserved : goal.loop-i-preserved
loop-i-preserved c =
    cleared_more c.either.result c.loop-i.invariant c.arrow-a.ensures.0
    (omega (arith, c.arrow-a.ensures.1.start, c.loop-i.invariant.size, c.requires.1))
    (chosen c.either.ensures c.retested-full.ensures)

pub returns : goal.returns
returns c = let p = c.requires in cleared_sured (cleared_all (omega (arith, c.args.chart.passed.arrows))
    c.loop-i.invariant) p.1
