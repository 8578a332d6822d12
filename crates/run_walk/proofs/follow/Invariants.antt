use Prim.Native.Nat.{◌<◌}
use Rattle.run_walk.specs.Walk.{walk_on}
use Rattle.run_walk.proofs.Rest.{Rest}
use Rattle.run_walk.proofs.follow.Given as goal

-- Invariant: what is written, followed by the walk of the steps that are left, is the whole walk.
abbrev pub invariant-loop-left : goal.invariant-loop-left
invariant-loop-left l =
    (l.state < l.chart.states) ×
    Rest (walk_on l.measure l.chart.bytes.now l.chart.states l.table l.k l.s) l.initial.out l.out l.end
    (walk_on l.measure l.chart.bytes.now l.chart.states l.table l.left l.state)
