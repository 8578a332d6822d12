-- Invariant: so far the numbers went their way.
use native.Mathlib.Omega.{arith}
use Rattle.walks.proofs.Walks.{runs_none, runs_goes, runs_both}
use Rattle.walks.proofs.back.Goals as goal

pub loop-x-init : goal.loop-x-init
loop-x-init c = (c.requires.0.size, runs_none _ _ _ _ _)

pub loop-x-preserved : goal.loop-x-preserved
loop-x-preserved c =
    let inv = c.loop-x.invariant in
    (omega (arith, inv.0), runs_both _ _ _ _ _ _ inv.1 (runs_goes _ _ _ _ _ c.follow.ensures))
