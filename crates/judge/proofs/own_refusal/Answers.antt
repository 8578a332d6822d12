-- Row 63 is there, or it is not.
use mathlib.Core.Path.{refl}
use Rattle.outcome.specs.Refusal.{first}
use Rattle.judge.proofs.own_refusal.Goals as goal

pub returns : goal.returns
unfolding first
returns c = rw c.if-counting.false refl
