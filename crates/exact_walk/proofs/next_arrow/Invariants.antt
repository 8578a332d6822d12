use Prim.Native.Nat.{◌-◌}
use Rattle.run_walk.proofs.Led.{Led}
use Rattle.exact_walk.proofs.Next.{serves_at}
use Rattle.exact_walk.proofs.next_arrow.Given as goal

-- Invariant: the links lead to i, an arrow from s or none, and no arrow below it serves.
abbrev pub invariant-loop-i : goal.invariant-loop-i
invariant-loop-i l =
    let serves = serves_at l.chart.bytes.now l.chart.states l.table l.left l.minutes l.s in
    Led l.chart.bytes.now l.s serves l.chart.arrows l.i

abbrev pub decreases-loop-i : goal.decreases-loop-i
decreases-loop-i l = l.chart.arrows - l.i
