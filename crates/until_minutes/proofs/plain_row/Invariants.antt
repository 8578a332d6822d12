use mathlib.Core.Path.{◌≡◌}
use lib.ListN.{length}
use Rattle.until_minutes.proofs.Waits.{Waits}
use Rattle.until_minutes.proofs.plain_row.Given as goal

-- Invariant: row t says who makes the until with no bound after k waits.
abbrev pub invariant-loop-k : goal.invariant-loop-k
invariant-loop-k l =
    (length l.numbers ≡ length l.initial.numbers) ×
    Waits l.all l.chart.bytes.now l.chart.states l.t l.node l.initial.marks l._k l.marks
