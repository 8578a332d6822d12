use Rattle.chart.specs.Bytes.{arrow_of}
use Rattle.cover.specs.Search.{Uncovered}
use Rattle.cover.proofs.cover_between.Given as goal

-- Invariant: no overview arrow from lo on and before j covers want.
abbrev pub invariant-loop-j : goal.invariant-loop-j
invariant-loop-j l = Uncovered l.overview (arrow_of l.want) l.lo l.j
