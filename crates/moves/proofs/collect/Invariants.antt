use Rattle.moves.specs.Moves.{open_in}
use Rattle.moves.specs.Turns.{Before}
use Rattle.moves.proofs.collect.Given as goal

-- Invariant: of the states before s the arrows are collected. The links lie in arrays for the most states and the most
-- arrows that a chart has.
abbrev pub invariant-loop-s : goal.invariant-loop-s
invariant-loop-s l =
    Before l.chart.bytes.now (open_in l.met l.p l.q) l.s l.ends l.words
