-- Passes, and a walk.
use Rattle.walks.proofs.Walks.{runs_goes, runs_both}
use Rattle.walks.proofs.along.Goals as goal

pub returns-then-not-again : goal.returns-then-not-again
returns-then-not-again c = runs_both _ _ _ _ _ _ (runs_goes _ _ _ _ _ c.pass.ensures) c.again.ensures

pub returns : goal.returns
returns c =
    runs_both _ _ _ _ _ _ (runs_both _ _ _ _ _ _ (runs_goes _ _ _ _ _ c.pass.ensures) c.again.ensures)
    c.walk.ensures
