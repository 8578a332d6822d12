-- Marks, a leap, and the way back.
use mathlib.Core.Bool.{true}
use Rattle.walks.proofs.Walks.{runs_marked, runs_goes, runs_both}
use Rattle.walks.proofs.walk_from.Goals as goal

pub returns : goal.returns
returns c =
    runs_both _ _ _ _ _ _
    (runs_both _ _ _ _ _ _ (runs_marked _ _ _ true _ _ c.trail-t.ensures.0) (runs_goes _ _ _ _ _ c.leap.ensures))
    c.back.ensures
