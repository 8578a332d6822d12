-- Invariant: the arrows after the next that raises a number were tried.
use mathlib.Core.Path.{◌≡◌, sym, ap, ◌∙◌}
use mathlib.Core.Bool.{cond}
use native.Mathlib.Omega.{arith}
use Rattle.std.specs.Prelude.{Some}
use Rattle.sweeps.specs.Sweep.{after}
use Rattle.sweeps.proofs.Swept.{after_low, tried_none, tried_more, raised_low}
use Rattle.sweeps.proofs.sweep.Goals.{then-renew, else-renew}
use Rattle.sweeps.proofs.sweep.Goals as goal

pub loop-next-init : goal.loop-next-init
loop-next-init c =
    let q = c.last_raising-next.ensures in
    (after_low _ q, omega arith, c.requires.0.size, λ go r still. tried_none _ r still q)

pub loop-next-preserved : goal.loop-next-preserved
loop-next-preserved c =
    let inv = c.loop-next.invariant in
    let q = c.last_raising-next-in-Some.ensures in
    let now : c.if-renew.last ≡ cond c.renew.result (Some c.in-Some.i) c.loop-next.last =
    elim c.if-renew.branch [
      | then-renew w ↦ w.last-is ∙ sym (ap (λ b. cond b (Some c.in-Some.i) c.loop-next.last) w.if-renew.true)
      | else-renew w ↦ w.last-is ∙ sym (ap (λ b. cond b (Some c.in-Some.i) c.loop-next.last) w.if-renew.false)
    ] in (
      omega (arith, after_low _ q, ap (after 0) c.in-Some.is, inv.0),
      raised_low c.renew.result c.loop-next.last now (omega (arith, ap (after 0) c.in-Some.is, inv.0)) inv.1,
      omega (arith, inv.2),
      λ go r still.
          let t = inv.3 go r still in
          tried_more (rw c.in-Some.is at t) (c.renew.ensures go t.swept.went.ready) q now,
    )
