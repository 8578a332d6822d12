-- Numbers on their way up: what a sweep over the arrows keeps, in any order, and why numbers that no arrow raises
-- are one list.
use mathlib.Core.Path.{◌≡◌, refl, sym, subst, ap, ◌∙◌}
use mathlib.Core.Logic.{◌↔◌, by_cases}
use mathlib.Core.List.{List, Memᴰ}
use mathlib.Core.Bool.{Bool, true, cond}
use Prim.Native.Nat.{ℕ, zero, suc, ◌+◌, ◌≤◌, ◌<◌, min}
use native.Mathlib.Omega.{arith}
use native.Mathlib.Decide.{dec_le}
use lib.ListN.{length, set, length-set}
use Rattle.base.specs.Yes.{Yes}
use Rattle.base.proofs.Truth.{cond_elim}
use Rattle.tctl.specs.Chart.{Chart, Arrow, Within, states}
use Rattle.tctl.specs.Run.{Step}
use Rattle.tctl.proofs.Drawn.{Drawn, step_below}
use Rattle.tctl.specs.Path.{Path, stop, step, To, steps, minutes}
use Rattle.tctl.proofs.Loop.{Slow, shorten, pumped}
use Rattle.model.specs.Engine.{num, round, offer, raise}
use Rattle.model.proofs.Numbers.{set_elim, num_antisym, Below, below_refl, below_trans}
use Rattle.model.proofs.Rounds.{round_keeps, round_past}
use Rattle.model.proofs.Raise.{
  offer_le,
  offer_mono,
  offer_step,
  offer_duration,
  Offered,
  raise_elim,
  raise_below,
  raise_offers,
}

-- a path through go whose minutes and the base of its last state come to v; from a base of 0 there is none
pub record Gain (G : Chart) (go : ℕ → Bool) (base : ℕ → ℕ) (s v : ℕ) : Type 0 where
  pub worth : ℕ
  pub some : 1 ≤ worth
  pub path : Path G (Yes go) (λ x. worth ≤ base x) s
  pub enough : v ≤ minutes path + worth

-- up to the cap, no path of k steps comes to more than the number of its first state
abbrev pub Covered : Chart → (ℕ → Bool) → ℕ → (ℕ → ℕ) → ℕ → List ℕ → Type 0
Covered G go cap base k vs =
    (s : ℕ) → s < states G → (w : ℕ) → 1 ≤ w → (p : Path G (Yes go) (λ x. w ≤ base x) s) → steps p ≤ k →
    min cap (minutes p + w) ≤ num vs s

-- no arrow offers more
abbrev pub Quiet : Chart → (ℕ → Bool) → ℕ → List ℕ → Type 0
Quiet G go cap vs = (a : Arrow) → Memᴰ a G.arrows → Offered go cap a vs vs

-- numbers on their way up after k sweeps: each is its state's base or more and a path's, and above the cap it is the
-- base; no path of k steps comes to more
pub record Rising (G : Chart) (go : ℕ → Bool) (cap : ℕ) (base : ℕ → ℕ) (k : ℕ) (vs : List ℕ) : Type 0 where
  pub size : length vs ≡ states G
  pub above : (s : ℕ) → s < states G → base s ≤ num vs s
  pub capped : (s : ℕ) → s < states G → cap < num vs s → num vs s ≤ base s
  pub backed : (s : ℕ) → s < states G → 1 ≤ num vs s → Gain G go base s (num vs s)
  pub covered : Covered G go cap base k vs

module _ {G : Chart} (dr : Drawn G) (go : ℕ → Bool) (cap : ℕ) where
  -- after a sweep over all arrows each start has what its arrow offered before
  pub round_offers :
      (leap : Bool) (arrows : List Arrow) → ((a : Arrow) → Memᴰ a G.arrows → Memᴰ a arrows) →
      (vs : List ℕ) → length vs ≡ states G → (a : Arrow) → Memᴰ a G.arrows →
      Offered go cap a vs (round (raise leap go cap) arrows vs)
  round_offers leap arrows all vs size a m g k =
      let w = round_past (raise leap go cap) Below below_refl chain arrows up (all a m) vs in
      let ws = w.0 in
      let more = w.1.le a.end in
      let here : a.start < length ws = omega (arith, w.1.size, dr.starts a m) in
      let does = raise_offers leap go cap a ws here g (omega arith) in
      omega (arith, does, offer_mono cap a.most (num vs a.end) (num ws a.end) more, w.2.le a.start)
    where
      chain : (us vs ws : List ℕ) → Below us vs → Below vs ws → Below us ws
      chain us vs ws = below_trans

      up : (a : Arrow) → Memᴰ a arrows → (vs : List ℕ) → Below vs (raise leap go cap a vs)
      up a m = raise_below leap go cap a

module _ {G : Chart} (dr : Drawn G) (go : ℕ → Bool) (cap : ℕ) (base : ℕ → ℕ) where
  -- ── No path comes to more ──

  abbrev Based : List ℕ → Type 0
  Based vs = (s : ℕ) → s < states G → base s ≤ num vs s

  covered_start : (vs : List ℕ) → Based vs → Covered G go cap base 0 vs
  covered_start vs at_base s l w i (stop e) h = omega (arith, at_base s l)
  covered_start vs at_base s l w i (step g x p) h = absurd (let z : ⊥ = omega arith in z)

  -- by one step more in a list that has what the arrows offer by the list before
  covered_suc :
      {k : ℕ} (vs ws : List ℕ) → Based ws → ((a : Arrow) → Memᴰ a G.arrows → Offered go cap a vs ws) →
      Covered G go cap base k vs → Covered G go cap base (suc k) ws
  covered_suc vs ws at_base offered c s l w i (stop e) h = omega (arith, at_base s l)
  covered_suc vs ws at_base offered c s l w i (step {d = d} {t} g x p) h =
      by_cases (dec_le 1 cap) more (λ n. omega arith)
    where
      a : Arrow
      a = x.arrow

      more : 1 ≤ cap → min cap (d + minutes p + w) ≤ num ws s
      more j =
          let ih = c t (step_below dr x) w i p (omega arith) in
          let e = ap (num vs) x.enters in
          let o = offered a x.drawn (subst (Yes go) (sym x.leaves) g) (omega arith) in
          let q = offer_step cap a.most d (minutes p + w) (num vs a.end) x.greatest (omega arith) in
          omega (arith, o, q, ap (num ws) x.leaves)

  -- ── Numbers that rise ──

  pub rising_start :
      (vs : List ℕ) → length vs ≡ states G → ((s : ℕ) → s < states G → num vs s ≡ base s) →
      Rising G go cap base 0 vs
  rising_start vs size same =
      record {
        size = size;
        above = above;
        capped = λ s l h. omega (arith, same s l);
        backed = λ s l h.
            let e = same s l in
            record { worth = base s; some = omega arith; path = stop {s = s} (omega arith); enough = omega arith };
        covered = covered_start vs above;
      }
    where
      above : Based vs
      above s l = omega (arith, same s l)

  pub rising_less : {j k : ℕ} {vs : List ℕ} → j ≤ k → Rising G go cap base k vs → Rising G go cap base j vs
  rising_less i r =
      record {
        size = r.size;
        above = r.above;
        capped = r.capped;
        backed = r.backed;
        covered = λ s l w o p h. r.covered s l w o p (omega arith);
      }

  -- a number may be set to what a path comes to
  rising_set :
      {k : ℕ} {vs : List ℕ} → Rising G go cap base k vs → (r v : ℕ) → num vs r < v → v ≤ cap → Gain G go base r v →
      Rising G go cap base k (set vs r v)
  rising_set {vs = vs} rise r v h i g =
      record {
        size = length-set vs r v ∙ rise.size;
        above = λ s l. omega (arith, rise.above s l, more s);
        capped =
            set_elim (λ s x. s < states G → cap < x → x ≤ base s) vs r v (λ l j. omega arith) (λ s. rise.capped s);
        backed = set_elim (λ s x. s < states G → 1 ≤ x → Gain G go base s x) vs r v (λ l j. g) (λ s. rise.backed s);
        covered = λ s l w j p q. omega (arith, rise.covered s l w j p q, more s);
      }
    where
      more : (s : ℕ) → num vs s ≤ num (set vs r v) s
      more = set_elim (λ s x. num vs s ≤ x) vs r v (omega arith) (λ s. omega arith)

  -- a path with a loop that takes a minute, which is taken again and again, comes to the cap
  gain_slow :
      {s v : ℕ} (g : Gain G go base s v) → Slow G (Yes go) (λ x. g.worth ≤ base x) s → Gain G go base s cap
  gain_slow g slow =
      let p = pumped slow cap in
      record { worth = g.worth; some = g.some; path = p.0; enough = omega (arith, p.1) }

  -- so does a number whose state is on such a loop
  pub rising_loop :
      {k : ℕ} {vs : List ℕ} → Rising G go cap base k vs → (r : ℕ) → r < states G → 1 ≤ num vs r → num vs r < cap →
      (p : Path G (Yes go) (To r) r) → 1 ≤ minutes p → Rising G go cap base k (set vs r cap)
  rising_loop rise r l i h p m =
      let g = rise.backed r l i in
      let comes = gain_slow g (record { knot = r; stem = stop refl; loop = p; exit = g.path }, m) in
      rising_set rise r cap h (omega arith) comes

  -- ── A sweep ──

  -- the arrow in front of a path, taken as long as the offer asks for
  gain_step :
      (a : Arrow) → Memᴰ a G.arrows → Yes go a.start → (v : ℕ) → Gain G go base a.end v →
      Gain G go base a.start (offer cap a.most v)
  gain_step a m y v g =
      record { worth = g.worth; some = g.some; path = step y x g.path; enough = omega (arith, d.3) }
    where
      d : (d : ℕ) × (a.fewest ≤ d) × Within d a.most × offer cap a.most v ≤ d + v
      d = offer_duration cap a.fewest a.most v (dr.slots a m)

      x : Step G a.start d.0 a.end
      x = record { arrow = a; drawn = m; leaves = refl; enters = refl; least = d.1; greatest = d.2 }

  -- After n sweeps no short path comes to more than was found. So a path that does has a loop that takes a minute,
  -- for without its loops it would be short.
  gain_leap :
      {k : ℕ} {vs : List ℕ} → Rising G go cap base k vs → states G ≤ k → (s : ℕ) → s < states G →
      (o : ℕ) → num vs s < o → o ≤ cap → Gain G go base s o → Gain G go base s cap
  gain_leap rise n s l o h i g =
      let q = shorten dr l g.path in
      let short = rise.covered s l g.worth g.some q.path (omega (arith, q.short)) in
      gain_slow g (q.quicker (omega arith))

  -- a number that an arrow sets is that of the path with the arrow in front
  pub rising_offer :
      (leap : Bool) {k : ℕ} → (leap ≡ true → states G ≤ k) → (a : Arrow) → Memᴰ a G.arrows →
      {vs : List ℕ} → Rising G go cap base k vs → Yes go a.start → 1 ≤ num vs a.end →
      num vs a.start < offer cap a.most (num vs a.end) →
      Rising G go cap base k (set vs a.start (cond leap cap (offer cap a.most (num vs a.end))))
  rising_offer leap {k} late a m {vs} rise y i h =
      cond_elim (λ x. Rising G go cap base k (set vs a.start x)) leap to_cap
      (λ e. rising_set rise a.start o h low g)
    where
      v : ℕ
      v = num vs a.end

      o : ℕ
      o = offer cap a.most v

      low : o ≤ cap
      low = offer_le cap a.most v

      g : Gain G go base a.start o
      g = gain_step a m y v (rise.backed a.end (dr.ends a m) i)

      to_cap : leap ≡ true → Rising G go cap base k (set vs a.start cap)
      to_cap e =
          let leaps = gain_leap rise (late e) a.start (dr.starts a m) o h low g in
          rising_set rise a.start cap (omega (arith, low)) (omega arith) leaps

  pub rising_raise :
      (leap : Bool) {k : ℕ} → (leap ≡ true → states G ≤ k) → (a : Arrow) → Memᴰ a G.arrows →
      (vs : List ℕ) → Rising G go cap base k vs → Rising G go cap base k (raise leap go cap a vs)
  rising_raise leap {k} late a m vs rise =
      raise_elim leap go cap a vs (Rising G go cap base k) (λ q. rise) (rising_offer leap late a m rise)

  -- numbers that have what the arrows offer by the list before are one sweep further
  pub rising_held :
      {k : ℕ} {vs ws : List ℕ} → Rising G go cap base k vs → Rising G go cap base k ws →
      ((a : Arrow) → Memᴰ a G.arrows → Offered go cap a vs ws) → Rising G go cap base (suc k) ws
  rising_held {vs = vs} {ws} rise r offers =
      record {
        size = r.size;
        above = r.above;
        capped = r.capped;
        backed = r.backed;
        covered = covered_suc vs ws r.above offers rise.covered;
      }

  -- a sweep over the arrows in any order; it may leap to the cap after n sweeps
  pub rising_round :
      (leap : Bool) {k : ℕ} → (leap ≡ true → states G ≤ k) → (arrows : List Arrow) →
      ((a : Arrow) → Memᴰ a arrows ↔ Memᴰ a G.arrows) → (vs : List ℕ) → Rising G go cap base k vs →
      Rising G go cap base (suc k) (round (raise leap go cap) arrows vs)
  rising_round leap {k} late arrows same vs rise =
      rising_held rise
      (round_keeps (raise leap go cap) (Rising G go cap base k) arrows
      (λ a m. rising_raise leap late a ((same a).0 m)) vs rise)
      (round_offers dr go cap leap arrows (λ a. (same a).1) vs rise.size)

  -- ── Numbers that no arrow raises ──

  -- no path of any length comes to more
  pub quiet_covered :
      {j : ℕ} {vs : List ℕ} → Rising G go cap base j vs → Quiet G go cap vs → (k : ℕ) → Covered G go cap base k vs
  quiet_covered {vs = vs} rise quiet zero = covered_start vs rise.above
  quiet_covered {vs = vs} rise quiet (suc k) = covered_suc vs vs rise.above quiet (quiet_covered rise quiet k)

  -- a number of either list is a path's, which the other list has too, or above the cap, and then a base
  rising_le :
      {j k : ℕ} {us vs : List ℕ} → Rising G go cap base j us → Rising G go cap base k vs → Quiet G go cap vs →
      (s : ℕ) → s < states G → num us s ≤ num vs s
  rising_le {us = us} {vs} r t quiet s l =
      by_cases (dec_le 1 (num us s)) (λ i. by_cases (dec_le (num us s) cap) (path i) base_alone) (λ n. omega arith)
    where
      path : 1 ≤ num us s → num us s ≤ cap → num us s ≤ num vs s
      path i h =
          let g = r.backed s l i in
          let p = g.path in
          let c = quiet_covered t quiet (steps p) s l g.worth g.some p (omega arith) in
          omega (arith, g.enough)

      base_alone : ¬ (num us s ≤ cap) → num us s ≤ num vs s
      base_alone n = omega (arith, r.capped s l (omega arith), t.above s l)

  -- Each of two such lists has what the paths behind the other's numbers come to, so neither is below the other. In
  -- which order the arrows were tried, and when numbers went to the cap, does not matter.
  pub rising_unique :
      {j k : ℕ} {us vs : List ℕ} → Rising G go cap base j us → Quiet G go cap us → Rising G go cap base k vs →
      Quiet G go cap vs → us ≡ vs
  rising_unique r q t u = num_antisym r.size t.size (rising_le r t u) (rising_le t r q)
