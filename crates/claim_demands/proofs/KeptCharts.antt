-- Every chart that was accepted before paper 4 is accepted now, with the same marks: its loops take a minute, so that every
-- unending sequence of steps passes every number.
use mathlib.Core.Path.{◌≡◌, refl, sym, ap, subst, ◌∙◌}
use mathlib.Core.Logic.Iff
use mathlib.Core.Logic.{◌↔◌, ⊎_map, by_cases}
use mathlib.Core.List.{Memᴰ}
use Prim.Native.Nat.{ℕ, zero, suc, ◌+◌, ◌≤◌, ◌<◌}
use native.Mathlib.Omega.{arith}
use native.Mathlib.Decide.{dec_le}
use Rattle.base.specs.Sum.{sum}
use Rattle.base.proofs.Sum.{sum_suc}
use Rattle.tctl.specs.Chart.{Chart, Arrow, states}
use Rattle.tctl.specs.Run.{Passes, Step, Run}
use Rattle.tctl.specs.Path.{Path, Any, To, steps, minutes}
use Rattle.tctl.specs.Formula.{Bound, Formula, always, label, not, and, or, some_until, all_until}
use Rattle.tctl.specs.Holds.{Met, Holds}
use Rattle.tctl.specs.Accepted.{Accepted, ReachesTimedLoop}
use Rattle.tctl.proofs.Drawn.{Drawn, step_below, quickest}
use Rattle.tctl.proofs.Path.{step_cast, weaken, steps_weaken, minutes_weaken}
use Rattle.tctl.proofs.Run.{walk, moves, paces, unroll, State, onward}
use Rattle.tctl.proofs.Prefix.{Steps, first_steps}
use Rattle.tctl.proofs.Loop.{looped}
use Rattle.tctl.proofs.Until.{met_map}
use Rattle.model.proofs.TicksAhead.{run_iff}
use Rattle.outcome.specs.declared.Outcome.{Outcome}
use Rattle.chart.specs.Bytes.{state_count, chart_of}
use Rattle.chart.specs.Refusals.{chart_refusal}
use Rattle.chart.proofs.WellFormed.{WellFormed, well_formed, chart_left}
use Rattle.chart.proofs.Chart.{states_of}
use Rattle.chart.proofs.Reading.{drawn}
use Rattle.rule.specs.Formula.{formula_at}
use Rattle.loops.proofs.Accepted.{accepted_by_meaning}
use Rattle.claim_demands.specs.KeptCharts.{OnZeroLoop, RunBefore, MetBefore, HoldsBefore, KeptCharts}

module _ {G : Chart} (dr : Drawn G) (timed : (s : ℕ) → ¬ OnZeroLoop G s) where
  -- ── Time passes ──

  -- a loop takes a minute: otherwise its arrows would all have fewest 0
  loop_minute : {go : ℕ → Type 0} (u : ℕ) (p : Path G go (To u) u) → 1 ≤ steps p → 1 ≤ minutes p
  loop_minute {go} u p l = by_cases (dec_le 1 (minutes p)) (λ h. h) (λ h. absurd (timed u (instant (omega arith))))
    where
      any : (x : ℕ) → go x → Any x
      any x g = tt

      to : (x : ℕ) → To u x → To u x
      to x e = e

      instant : minutes p ≡ 0 → OnZeroLoop G u
      instant h = (weaken any to p, omega (arith, steps_weaken any to p), minutes_weaken any to p ∙ h)

  -- n steps take a minute, for they hold a loop
  advance : (state duration : ℕ → ℕ) → Steps G state duration → state 0 < states G → 1 ≤ sum duration (states G)
  advance state duration moves l =
      let t = first_steps {go = Any} {end = Any} state duration moves (states G) tt (λ j h. tt) in
      let k : states G ≤ steps t.0 = omega (arith, t.1) in
      let c = looped dr l t.0 k in
      let w = c.lasso in
      omega (arith, loop_minute w.knot w.loop c.some_steps, c.minutes_all, t.2)

  -- every such sequence comes past c
  abbrev Past : ℕ → Type 0
  Past c =
      (state duration : ℕ → ℕ) → Steps G state duration → state 0 < states G → (i : ℕ) × c < sum duration i

  -- what every sequence comes past, every sequence comes past after its first k steps
  beyond :
      (c : ℕ) → Past c →
      (k : ℕ) (state duration : ℕ → ℕ) → Steps G state duration → state 0 < states G →
      (i : ℕ) × c + sum duration k < sum duration i
  unfolding sum
  beyond c f zero state duration moves l = let x = f state duration moves l in (x.0, omega (arith, x.1))
  beyond c f (suc k) state duration moves l =
      let x = beyond c f k (λ i. state (suc i)) (λ i. duration (suc i)) (λ i. moves (suc i)) (step_below dr (moves 0)) in
      (suc x.0, omega (arith, x.1, sum_suc duration k, sum_suc duration x.0))

  -- By induction on c: the first n steps take a minute, and after them the sequence comes past c.
  past : (c : ℕ) → Past c
  past zero state duration moves l = (states G, advance state duration moves l)
  past (suc c) state duration moves l =
      let x = beyond c (past c) (states G) state duration moves l in
      (x.0, omega (arith, x.1, advance state duration moves l))

  passing : {s : ℕ} → s < states G → (r : RunBefore G s) → Passes r.duration
  passing l r c = past c r.state r.duration r.moves (subst (λ u. u < states G) (sym r.starts) l)

  -- ── The runs are the same ──

  abbrev counted : {s : ℕ} → s < states G → RunBefore G s → Run G s
  counted l r =
      record {
        state = r.state;
        duration = r.duration;
        starts = r.starts;
        moves = r.moves;
        passes = passing l r;
      }

  abbrev any_run : {s : ℕ} → Run G s → RunBefore G s
  any_run r = record { state = r.state; duration = r.duration; starts = r.starts; moves = r.moves }

  met_iff :
      {P Q : ℕ → Type 0} {b : Bound} {s : ℕ} (r : Run G s) → MetBefore G P Q b s (any_run r) ↔ Met G P Q b s r
  met_iff r = (
    λ m. record { position = m.position; intime = m.intime; there = m.there; before = m.before },
    λ m. record { position = m.position; intime = m.intime; there = m.there; before = m.before },
  )

  -- By induction on the formula: an until by the same run, which stays in the chart's states.
  holds_same : (f : Formula) (s : ℕ) → s < states G → HoldsBefore G f s ↔ Holds G f s
  holds_same always s l = Iff.rfl
  holds_same (label i) s l = Iff.rfl
  holds_same (not f) s l = Iff.not (holds_same f s l)
  holds_same (and f g) s l = Iff.and (holds_same f s l) (holds_same g s l)
  holds_same (or f g) s l =
      let p = holds_same f s l in
      let q = holds_same g s l in
      (⊎_map p.0 q.0, ⊎_map p.1 q.1)
  holds_same (some_until b f g) s l =
      let to = met_map dr (λ u k. (holds_same f u k).0) (λ u k. (holds_same g u k).0) l in
      let from = met_map dr (λ u k. (holds_same f u k).1) (λ u k. (holds_same g u k).1) l in (
        λ x. let r = counted l x.0 in (r, to r ((met_iff r).0 x.1)),
        λ x. (any_run x.0, (met_iff x.0).1 (from x.0 x.1)),
      )
  holds_same (all_until b f g) s l =
      let to = met_map dr (λ u k. (holds_same f u k).0) (λ u k. (holds_same g u k).0) l in
      let from = met_map dr (λ u k. (holds_same f u k).1) (λ u k. (holds_same g u k).1) l in (
        λ h r. to r ((met_iff r).0 (h (any_run r))),
        λ h r. let c = counted l r in (met_iff c).1 (from c (h c)),
      )

  -- ── Every state reaches a loop on which time can pass ──

  module _ (leaves : (s : ℕ) → s < states G → (a : Arrow) × Memᴰ a G.arrows × (a.start ≡ s)) where
    leave : (s : ℕ) → s < states G → (t : ℕ) × (d : ℕ) × Step G s d t
    leave s l =
        let w = leaves s l in
        let a = w.0 in
        (a.end, a.fewest, step_cast (sym w.2) refl (quickest dr a w.1))

    -- On by arrows in their fewest minutes: that comes past every number, so it is a run, and a run starts only where such a
    -- loop is reached.
    reaches : (s : ℕ) → s < states G → ReachesTimedLoop G s
    reaches s l =
        let S = State dr leave in
        let at : S → ℕ = λ x. x.0 in
        let on = onward dr leave in
        let passes : Passes (paces {G = G} at on (s, l)) =
        λ c. past c (λ i. (walk {G = G} at on (s, l) i).0) (paces {G = G} at on (s, l)) (moves {G = G} at on (s, l)) l in
        (run_iff dr s l).1 (unroll at on (s, l) passes)

pub kept_charts : KeptCharts
kept_charts chart old =
    record {
      accepted = accepted_by_meaning chart z accepted;
      holds = same;
      marks = λ counting rule marks scratch r newMarks new_scratch c e t s k l.
          let tells = c.meaning e t s k l in
          let back = Iff.symm (same (formula_at rule t) s l) in
          record { yes = Iff.trans tells.yes back; no = Iff.trans tells.no (Iff.not back) };
    }
  where
    z : (chart_refusal chart).number ≡ 0
    z = ap (λ (r : Outcome). r.number) old.rows

    ok : WellFormed chart
    ok = well_formed chart z

    dr : Drawn (chart_of chart)
    dr = drawn (record { states = refl; arrows = refl; unrefused = z })

    same :
        (f : Formula) (s : ℕ) → s < state_count chart → HoldsBefore (chart_of chart) f s ↔ Holds (chart_of chart) f s
    same f s l = holds_same dr old.timed f s (omega (arith, states_of chart))

    accepted : Accepted (chart_of chart)
    accepted =
        record {
          starts = dr.starts;
          ends = dr.ends;
          slots = dr.slots;
          leaves = chart_left chart ok;
          timed = reaches dr old.timed (chart_left chart ok);
        }
