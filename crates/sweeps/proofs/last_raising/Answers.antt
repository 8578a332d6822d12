-- Invariant: the arrows from i on and before k raise no number.
use Rattle.sweeps.proofs.Swept.{quiet_more}
use Rattle.sweeps.proofs.last_raising.Goals as goal

pub loop-i-preserved : goal.loop-i-preserved
loop-i-preserved c = quiet_more c.loop-i-test.true c.loop-i.invariant (c.raises.ensures c.if-raises.false)
