-- A state's number of ticks is above n just if it reaches a loop on which time can pass.
use mathlib.Core.Path.{◌≡◌, refl, sym, ap, subst, ◌∙◌}
use mathlib.Core.Logic.{◌↔◌, by_cases}
use mathlib.Core.List.Memᴰ
use mathlib.Core.List.{Memᴰ}
use mathlib.Core.Bool.{true}
use Prim.Native.Nat.{ℕ, zero, suc, ◌+◌, ◌≤◌, ◌<◌}
use native.Mathlib.Omega.{arith}
use native.Mathlib.Decide.{dec_le}
use Rattle.base.specs.Yes.{Yes}
use Rattle.tctl.specs.Chart.{Chart, Arrow, Most, up_to, no_end, Within, states}
use Rattle.tctl.specs.Run.{Run}
use Rattle.tctl.specs.Path.{Path, stop, step, minutes, Any, To}
use Rattle.tctl.specs.Accepted.{AboveZero, ReachesTimedLoop}
use Rattle.tctl.proofs.Drawn.{Drawn}
use Rattle.tctl.proofs.Path.{cast, append, last, weaken, minutes_weaken}
use Rattle.tctl.proofs.Prefix.{prefix}
use Rattle.tctl.proofs.Lively.{timed_run}
use Rattle.model.specs.Engine.{num}
use Rattle.model.specs.Decide.{tick, ticking}
use Rattle.model.specs.TicksAhead.{ticks_ahead}
use Rattle.model.proofs.Ticks.{ticks, ticks_drawn, untick, untick_path, ticks_lasso, ticked}
use Rattle.model.proofs.Rising.{Gain}
use Rattle.model.proofs.Greatest.{greatest_iff}

-- where a tick passes, the most is above 0
above_zero : (m : Most) (d : ℕ) → 1 ≤ d → Within d (tick m) → AboveZero m
above_zero (up_to zero) d h w = omega arith
above_zero (up_to (suc m)) d h w = omega arith
above_zero no_end d h w = tt

-- an arrow with most above 0 on a path from u to v
record TimedOn (G : Chart) (v u : ℕ) : Type 0 where
  arrow : Arrow
  drawn : Memᴰ arrow G.arrows
  timed : AboveZero arrow.most
  before : Path G Any (To arrow.start) u
  behind : Path G Any (To v) arrow.end

module _ {G : Chart} (dr : Drawn G) where
  -- the same path, of whose states nothing is said, in minutes
  minuted : {go end : ℕ → Type 0} {s : ℕ} → Path (ticks G) go end s → Path G Any end s
  minuted p = weaken (λ x g. tt) (λ x e. e) (untick_path dr p).0

  -- By induction on the path: its first step takes a tick, or what follows does.
  timed_on : {go : ℕ → Type 0} {v u : ℕ} (p : Path (ticks G) go (To v) u) → 1 ≤ minutes p → TimedOn G v u
  timed_on (stop e) h = absurd (let z : ⊥ = omega arith in z)
  timed_on {v = v} (step {s} {d} {t} g x p) h = by_cases (dec_le 1 d) now (λ k. later (timed_on p (omega arith)))
    where
      w : (a : Arrow) × Memᴰ a G.arrows × (ticking a ≡ x.arrow)
      w = Memᴰ.of_map ticking G.arrows x.drawn

      now : 1 ≤ d → TimedOn G v s
      now k =
          let a = w.0 in
          record {
            arrow = a;
            drawn = w.1;
            timed = above_zero a.most d k (subst (λ b. Within d b.most) (sym w.2) x.greatest);
            before = stop (sym (ap (λ b. b.start) w.2 ∙ x.leaves));
            behind = cast (ap (λ b. b.end) w.2 ∙ x.enters) (minuted p);
          }

      later : TimedOn G v t → TimedOn G v s
      later y =
          record {
            arrow = y.arrow;
            drawn = y.drawn;
            timed = y.timed;
            before = step tt (untick dr x).2 y.before;
            behind = y.behind;
          }

  -- A path of n ticks goes round a loop in which one passes, by an arrow with most above 0.
  round_timed :
      {go end : ℕ → Type 0} {s : ℕ} → s < states G → (p : Path (ticks G) go end s) → states G ≤ minutes p →
      ReachesTimedLoop G s
  round_timed l p h =
      let slow = ticks_lasso dr l p h in
      let lasso = slow.0 in
      let y = timed_on lasso.loop slow.1 in
      let knot = lasso.knot in
      record {
        arrow = y.arrow;
        drawn = y.drawn;
        timed = y.timed;
        reached = append knot (minuted lasso.stem) y.before;
        back = append knot y.behind y.before;
      }

  -- the first steps of a run, as far as n ticks
  run_ticks : {s : ℕ} → Run G s → (p : Path (ticks G) Any Any s) × states G ≤ minutes p
  run_ticks r =
      let i = (ticked r).passes (states G) in
      let p = prefix {go = Any} {end = Any} (ticked r) i.0 tt (λ j h. tt) in
      (p.0, omega (arith, i.1, p.2))

  -- A run starts just where a loop on which time can pass is reached: it goes round the loop for ever; and the first steps
  -- of a run, as far as n ticks, go round one.
  pub run_iff : (s : ℕ) → s < states G → ReachesTimedLoop G s ↔ Run G s
  run_iff s l = (timed_run dr, λ r. let p = run_ticks r in round_timed l p.0 p.1)

  -- The number is above n just if a path has n ticks. Such a path goes round a loop in which one passes; and where such a
  -- loop is reached, a run has n ticks in its first steps.
  pub ticks_ahead_iff :
      (s : ℕ) → s < states G → (states G < num (ticks_ahead G.arrows (states G)) s) ↔ ReachesTimedLoop G s
  unfolding ticks_ahead
  ticks_ahead_iff s l = (down, up)
    where
      n : ℕ
      n = states G

      i : (n < num (ticks_ahead G.arrows n) s) ↔ Gain (ticks G) (λ x. true) (λ x. 1) s (suc n)
      i = greatest_iff (ticks_drawn dr) (λ x. true) (suc n) (omega arith) (λ x. 1) s l

      down : n < num (ticks_ahead G.arrows n) s → ReachesTimedLoop G s
      down h =
          let g = i.0 h in
          round_timed l g.path (omega (arith, g.enough, (last g.path).1))

      any : (x : ℕ) → Any x → Yes (λ x. true) x
      any x t = refl

      one : (x : ℕ) → Any x → 1 ≤ 1
      one x t = omega arith

      up : ReachesTimedLoop G s → n < num (ticks_ahead G.arrows n) s
      up h =
          let p = run_ticks (timed_run dr h) in
          let enough : suc n ≤ minutes (weaken any one p.0) + 1 = omega (arith, p.1, minutes_weaken any one p.0) in
          i.1 (record { worth = 1; some = omega arith; path = weaken any one p.0; enough = enough })
