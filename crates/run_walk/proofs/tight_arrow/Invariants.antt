use Prim.Native.Nat.{◌-◌}
use Rattle.run_walk.specs.Walk.{is_tight}
use Rattle.run_walk.proofs.Led.{Led}
use Rattle.run_walk.proofs.tight_arrow.Given as goal

-- Invariant: the links lead to i, an arrow from s or none, and no arrow below it passes the test.
abbrev pub invariant-loop-i : goal.invariant-loop-i
invariant-loop-i l =
    Led l.chart.bytes.now l.s (is_tight l.measure l.chart.bytes.now l.chart.states l.table l.at l.s) l.chart.arrows l.i

abbrev pub decreases-loop-i : goal.decreases-loop-i
decreases-loop-i l = l.chart.arrows - l.i
