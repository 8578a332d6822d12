-- Invariant: the arrows were followed, any number of times. Each time before the last a state more makes it.
use Rattle.minute_rows.proofs.Keeping.{kept_again}
use Rattle.minute_rows.proofs.Growing.{missing_less}
use Rattle.minute_rows.proofs.rounds.Goals as goal

pub loop-smaller : goal.loop-smaller
loop-smaller c = missing_less c.sweep.ensures c.loop-test.true

pub loop-preserved : goal.loop-preserved
loop-preserved c = kept_again c.loop.invariant c.sweep.ensures.kept
