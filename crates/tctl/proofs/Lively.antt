-- Every state of an accepted chart has a run: to its loop, and round that for ever.
use mathlib.Core.Path.{refl}
use mathlib.Core.List.{Memᴰ}
use Prim.Native.Nat.{ℕ, ◌≤◌, max}
use native.Mathlib.Omega.{arith}
use Rattle.tctl.specs.Chart.{Chart, Arrow, Most, up_to, no_end, Within}
use Rattle.tctl.specs.Run.{Run, Step}
use Rattle.tctl.specs.Path.{Path, step, Any, To}
use Rattle.tctl.specs.Accepted.{AboveZero, ReachesTimedLoop, Accepted}
use Rattle.tctl.proofs.Drawn.{Drawn, accepted_drawn}
use Rattle.tctl.proofs.Run.{Lively}
use Rattle.tctl.proofs.Forever.{forever}

-- a duration of the slot that is a minute or more
a_minute : (m : Most) (f : ℕ) → Within f m → AboveZero m → (d : ℕ) × (1 ≤ d) × (f ≤ d) × Within d m
a_minute (up_to m) f w h = (max 1 f, omega arith, omega arith, omega arith)
a_minute no_end f w h = (max 1 f, omega arith, omega arith, tt)

-- the arrow, taken in a minute or more
pub timed_step :
    {G : Chart} → Drawn G → (a : Arrow) → Memᴰ a G.arrows → AboveZero a.most →
    (d : ℕ) × (1 ≤ d) × Step G a.start d a.end
timed_step dr a m h =
    let d = a_minute a.most a.fewest (dr.slots a m) h in (
      d.0,
      d.1,
      record { arrow = a; drawn = m; leaves = refl; enters = refl; least = d.2; greatest = d.3 },
    )

pub timed_run : {G : Chart} → Drawn G → {s : ℕ} → ReachesTimedLoop G s → Run G s
timed_run {G} dr h =
    let a = h.arrow in
    let x = timed_step dr a h.drawn h.timed in
    let loop : Path G Any (To a.start) a.start = step tt x.2 h.back in
    (forever loop (omega (arith, x.1)) h.reached).0

pub lively : {G : Chart} → Accepted G → Lively G
lively acc s l = timed_run (accepted_drawn acc) (acc.timed s l)
