-- Numbers on their way down: what a sweep over the arrows keeps, in any order, and why numbers that no arrow lowers
-- are one list.
use mathlib.Core.Path.{◌≡◌, sym, subst, ap, ◌∙◌}
use mathlib.Core.List.{List, Memᴰ}
use mathlib.Core.Bool.{Bool}
use Prim.Native.Nat.{ℕ, zero, suc, ◌+◌, ◌≤◌, ◌<◌}
use native.Mathlib.Omega.{arith}
use lib.ListN.{length, set, length-set}
use Rattle.base.specs.Yes.{Yes}
use Rattle.tctl.specs.Chart.{Chart, Arrow, states}
use Rattle.tctl.proofs.Drawn.{Drawn, step_below, quickest}
use Rattle.tctl.specs.Path.{Path, stop, step, steps, minutes}
use Rattle.model.specs.Engine.{num, round, lower}
use Rattle.model.proofs.Numbers.{set_elim, num_antisym, Below, below_refl, below_trans}
use Rattle.model.proofs.Rounds.{round_keeps, round_past}
use Rattle.model.proofs.Lower.{Lowered, lower_elim, lower_below, lower_does}

-- a path through go whose minutes and the base of its last state come to v or less
pub record Cost (G : Chart) (go : ℕ → Bool) (base : ℕ → ℕ) (s v : ℕ) : Type 0 where
  pub worth : ℕ
  pub path : Path G (Yes go) (λ x. base x ≤ worth) s
  pub enough : minutes path + worth ≤ v

-- no path of k steps comes to less than the number of its first state
abbrev pub Covered : Chart → (ℕ → Bool) → (ℕ → ℕ) → ℕ → List ℕ → Type 0
Covered G go base k vs =
    (s : ℕ) → s < states G → (w : ℕ) → (p : Path G (Yes go) (λ x. base x ≤ w) s) → steps p ≤ k →
    num vs s ≤ minutes p + w

-- no arrow lowers a number
abbrev pub Quiet : Chart → (ℕ → Bool) → List ℕ → Type 0
Quiet G go vs = (a : Arrow) → Memᴰ a G.arrows → Lowered go a vs vs

-- numbers on their way down: each is its state's base or less, and a path's
pub record Falling (G : Chart) (go : ℕ → Bool) (base : ℕ → ℕ) (vs : List ℕ) : Type 0 where
  pub size : length vs ≡ states G
  pub below : (s : ℕ) → s < states G → num vs s ≤ base s
  pub found : (s : ℕ) → s < states G → Cost G go base s (num vs s)

module _ {G : Chart} (dr : Drawn G) (go : ℕ → Bool) (base : ℕ → ℕ) where
  -- ── A sweep ──

  pub falling_start :
      (vs : List ℕ) → length vs ≡ states G → ((s : ℕ) → s < states G → num vs s ≡ base s) → Falling G go base vs
  falling_start vs size same =
      record {
        size = size;
        below = λ s l. omega (arith, same s l);
        found = λ s l.
            record { worth = base s; path = stop {s = s} (omega arith); enough = omega (arith, same s l) };
      }

  -- a number that an arrow sets is that of the path with the arrow in front, taken in its fewest minutes
  pub falling_lower :
      (a : Arrow) → Memᴰ a G.arrows → {vs : List ℕ} → Falling G go base vs → Yes go a.start →
      a.fewest + num vs a.end < num vs a.start →
      Falling G go base (set vs a.start (a.fewest + num vs a.end))
  falling_lower a m {vs} fall y h =
      record {
        size = length-set vs a.start v ∙ fall.size;
        below =
            set_elim (λ s x. s < states G → x ≤ base s) vs a.start v
            (λ l. omega (arith, fall.below a.start l)) (λ s. fall.below s);
        found = set_elim (λ s x. s < states G → Cost G go base s x) vs a.start v (λ l. new) (λ s. fall.found s);
      }
    where
      v : ℕ
      v = a.fewest + num vs a.end

      new : Cost G go base a.start v
      new =
          let c = fall.found a.end (dr.ends a m) in
          record { worth = c.worth; path = step y (quickest dr a m) c.path; enough = omega (arith, c.enough) }

  -- a sweep over the arrows in any order
  pub falling_round :
      (arrows : List Arrow) → ((a : Arrow) → Memᴰ a arrows → Memᴰ a G.arrows) → (vs : List ℕ) →
      Falling G go base vs → Falling G go base (round (lower go) arrows vs)
  falling_round arrows drawn =
      round_keeps (lower go) (Falling G go base) arrows
      (λ a m vs fall. lower_elim go a vs (Falling G go base) (λ q. fall) (falling_lower a (drawn a m) fall))

  -- ── No path comes to less ──

  pub covered_start : {vs : List ℕ} → Falling G go base vs → Covered G go base 0 vs
  covered_start fall s l w (stop e) h = omega (arith, fall.below s l)
  covered_start fall s l w (step g x p) h = absurd (let z : ⊥ = omega arith in z)

  -- by one step more in a list whose numbers are at most what the arrows have by the list before
  covered_suc :
      {k : ℕ} (vs : List ℕ) {ws : List ℕ} → Falling G go base ws →
      ((a : Arrow) → Memᴰ a G.arrows → Lowered go a vs ws) →
      Covered G go base k vs → Covered G go base (suc k) ws
  covered_suc vs fall lowered c s l w (stop e) h = omega (arith, fall.below s l)
  covered_suc vs {ws} fall lowered c s l w (step {d = d} {t} g x p) h =
      let a = x.arrow in
      let ih = c t (step_below dr x) w p (omega arith) in
      let o = lowered a x.drawn (subst (Yes go) (sym x.leaves) g) in
      omega (arith, o, x.least, ap (num vs) x.enters, ap (num ws) x.leaves)

  -- after a sweep over all arrows
  pub covered_round :
      {k : ℕ} {vs : List ℕ} → Falling G go base vs → Covered G go base k vs →
      Covered G go base (suc k) (round (lower go) G.arrows vs)
  covered_round {vs = vs} fall = covered_suc vs (falling_round G.arrows (λ a m. m) vs fall) lowered
    where
      chain : (us vs ws : List ℕ) → Below vs us → Below ws vs → Below ws us
      chain us vs ws p q = below_trans q p

      down : (a : Arrow) → Memᴰ a G.arrows → (vs : List ℕ) → Below (lower go a vs) vs
      down a m = lower_below go a

      lowered : (a : Arrow) → Memᴰ a G.arrows → Lowered go a vs (round (lower go) G.arrows vs)
      lowered a m g =
          let w = round_past (lower go) (λ vs ws. Below ws vs) below_refl chain G.arrows down m vs in
          let here : a.start < length w.0 = omega (arith, w.1.size, fall.size, dr.starts a m) in
          omega (arith, lower_does go a w.0 here g, w.1.le a.end, w.2.le a.start)

  -- if no arrow lowers a number
  pub quiet_covered :
      {vs : List ℕ} → Falling G go base vs → Quiet G go vs → (k : ℕ) → Covered G go base k vs
  quiet_covered fall quiet zero = covered_start fall
  quiet_covered {vs} fall quiet (suc k) = covered_suc vs fall quiet (quiet_covered fall quiet k)

  -- ── Numbers that no path comes to less than ──

  -- a number of either list is a path's, and the other list's is no more
  falling_le :
      (us : List ℕ) {vs : List ℕ} → ((k : ℕ) → Covered G go base k us) → Falling G go base vs →
      (s : ℕ) → s < states G → num us s ≤ num vs s
  falling_le us covered fall s l =
      let c = fall.found s l in
      omega (arith, covered (steps c.path) s l c.worth c.path (omega arith), c.enough)

  -- Neither of two such lists is above the other, however they came about.
  pub falling_unique :
      {us vs : List ℕ} → Falling G go base us → ((k : ℕ) → Covered G go base k us) →
      Falling G go base vs → ((k : ℕ) → Covered G go base k vs) → us ≡ vs
  falling_unique {us} {vs} f c g d =
      num_antisym f.size g.size (falling_le us c g) (falling_le vs d f)
