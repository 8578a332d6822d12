-- Invariant: the arrows were tried, any number of times. Each time before the last a number falls, and their sum with it.
use Rattle.exact_table.proofs.Keeping.{kept_again}
use Rattle.exact_table.proofs.rounds.Goals as goal

pub loop-preserved : goal.loop-preserved
loop-preserved c = kept_again c.loop.invariant c.sweep.ensures.kept
