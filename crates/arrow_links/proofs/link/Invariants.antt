use mathlib.Core.Path.{◌≡◌}
use lib.ListN.{length}
use Rattle.arrow_links.specs.Linked.{Linked}
use Rattle.arrow_links.proofs.link.Given as goal

-- Invariant: the arrows from i on are linked.
abbrev pub invariant-loop-i : goal.invariant-loop-i
invariant-loop-i l =
    (length l.firsts ≡ length l.initial.firsts) × (length l.nexts ≡ length l.initial.nexts) ×
    Linked l.chart.bytes.now l.chart.states l.chart.arrows l.i l.firsts l.nexts
