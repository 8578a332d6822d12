-- Invariant: so far the numbers went their way.
use native.Mathlib.Omega.{arith}
use Rattle.walks.proofs.Walks.{runs_none, runs_both}
use Rattle.walks.proofs.walk.Goals as goal

pub loop-s-init : goal.loop-s-init
loop-s-init c = (c.requires.size, runs_none _ _ _ _ _)

pub loop-s-preserved : goal.loop-s-preserved
loop-s-preserved c =
    let inv = c.loop-s.invariant in (omega (arith, inv.0), runs_both _ _ _ _ _ _ inv.1 c.walk_from.ensures)
