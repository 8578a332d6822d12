use mathlib.Core.Path.{◌≡◌}
use Prim.Native.Nat.{◌≤◌, ◌<◌}
use Rattle.run_walk.proofs.Rest.{Rest}
use Rattle.exact_table.specs.Rows.{left_in}
use Rattle.exact_walk.specs.Walk.{walk_in}
use Rattle.exact_walk.proofs.follow.Given as goal

-- Invariant: what is written, followed by the walk of the steps that are left, is the whole walk; and these are the
-- fewest for the minutes and the state.
abbrev pub invariant-loop-left : goal.invariant-loop-left
invariant-loop-left l =
    (l.state < l.chart.states) × (l.minutes ≤ l.c) × (left_in l.chart.states l.table l.minutes l.state ≡ l.left) ×
    Rest (walk_in l.chart.bytes.now l.chart.states l.table l.k l.c l.s) l.initial.out l.out l.end
    (walk_in l.chart.bytes.now l.chart.states l.table l.left l.minutes l.state)
