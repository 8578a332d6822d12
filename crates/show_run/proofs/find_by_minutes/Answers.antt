-- The state's number in the row of c minutes is the run's number of steps, and the walk by the numbers is the run, if it
-- fits.
use Rattle.show_run.proofs.ByMinutes.{minutes_none, minutes_long, walkable, minutes_walked}
use Rattle.show_run.proofs.find_by_minutes.Goals as goal

pub returns-then-k-gt-MOST_STEPS : goal.returns-then-k-gt-MOST_STEPS
returns-then-k-gt-MOST_STEPS c =
    minutes_none c.requires.0 c.requires.1 c.fill_steps.ensures c.if-k-gt-MOST_STEPS.true

pub returns-then-output-k : goal.returns-then-output-k
returns-then-output-k c =
    minutes_long c.requires.0 c.requires.1 c.fill_steps.ensures c.if-k-gt-MOST_STEPS.false c.if-output-k.true

pub write_walk-requires : goal.write_walk-requires
write_walk-requires c =
    walkable c.requires.0 c.requires.1 c.fill_steps.ensures c.if-k-gt-MOST_STEPS.false c.if-output-k.false
    c.fill_steps.auto.table

pub returns : goal.returns
returns c =
    minutes_walked c.requires.0 c.requires.1 c.fill_steps.ensures c.if-k-gt-MOST_STEPS.false c.if-output-k.false
    c.write_walk.ensures
