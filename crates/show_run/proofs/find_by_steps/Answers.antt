-- What the search finds is the run's number of steps, and the walk of so many steps is the run, if it fits.
use Rattle.show_run.proofs.BySteps.{steps_none, steps_long, walkable, steps_walked}
use Rattle.show_run.proofs.find_by_steps.Goals as goal

pub returns-in_err-k : goal.returns-in_err-k
returns-in_err-k c = rw c.from_residual.ensures (steps_none c.requires c.in_err-k.ensures)

pub returns-then-output-k : goal.returns-then-output-k
returns-then-output-k c = steps_long c.requires c.in_ok-k.ensures c.if-output-k.true

pub write_walk-requires : goal.write_walk-requires
write_walk-requires c =
    walkable c.requires c.in_ok-k.ensures c.if-output-k.false c.fewest_steps.auto.table

pub returns : goal.returns
returns c = steps_walked c.requires c.in_ok-k.ensures c.if-output-k.false c.write_walk.ensures
