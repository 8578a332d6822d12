-- Invariant: so far the numbers went their way.
use native.Mathlib.Omega.{arith}
use Rattle.visits.proofs.Went.{went_none, went_both}
use Rattle.walks.proofs.pass.Goals as goal

pub loop-k-init : goal.loop-k-init
loop-k-init c = (c.requires.size, λ go r. went_none r)

pub loop-k-preserved : goal.loop-k-preserved
loop-k-preserved c =
    let inv = c.loop-k.invariant in
    (omega (arith, inv.0), λ go r. let t = inv.1 go r in went_both t (c.follow-any.ensures go t.ready))
