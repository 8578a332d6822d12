-- A path of n steps, n the number of states, has a loop, which can be left out or taken again.
use mathlib.Core.Path.{◌≡◌, refl, sym, ◌∙◌}
use mathlib.Core.Logic.{by_cases}
use Prim.Native.Nat.{ℕ, zero, suc, ◌+◌, ◌≤◌, ◌<◌}
use native.Mathlib.Omega.{arith}
use native.Mathlib.Decide.{dec_le}
use Rattle.tctl.specs.Chart.{Chart, states}
use Rattle.tctl.proofs.Drawn.{Drawn}
use Rattle.tctl.specs.Path.{Path, stop, step, To, steps, minutes}
use Rattle.tctl.proofs.Path.{at, at_zero, at_below, cast, steps_cast, minutes_cast, append, steps_append, minutes_append}
use Rattle.base.proofs.Pigeonhole.{pigeonhole}

-- a path to a state, a path from there back to it, and a path on from it
pub record Lasso (G : Chart) (go end : ℕ → Type 0) (s : ℕ) : Type 0 where
  pub knot : ℕ
  pub stem : Path G go (To knot) s
  pub loop : Path G go (To knot) knot
  pub exit : Path G go end knot

-- the parts of the path p, which has a loop
pub record Looped {G : Chart} {go end : ℕ → Type 0} {s : ℕ} (p : Path G go end s) : Type 0 where
  pub lasso : Lasso G go end s
  pub some_steps : 1 ≤ steps lasso.loop
  pub steps_all : steps lasso.stem + steps lasso.loop + steps lasso.exit ≡ steps p
  pub minutes_all : minutes lasso.stem + minutes lasso.loop + minutes lasso.exit ≡ minutes p

-- the parts of the path p, cut after i steps, in u
record Cut {G : Chart} {go end : ℕ → Type 0} {s : ℕ} (p : Path G go end s) (i u : ℕ) : Type 0 where
  front : Path G go (To u) s
  back : Path G go end u
  steps_front : steps front ≡ i
  steps_all : steps front + steps back ≡ steps p
  minutes_all : minutes front + minutes back ≡ minutes p

-- a lasso whose loop takes a minute or more
abbrev pub Slow : Chart → (ℕ → Type 0) → (ℕ → Type 0) → ℕ → Type 0
Slow G go end s = (w : Lasso G go end s) × 1 ≤ minutes w.loop

-- a short path in the place of p: if it is quicker, then because a loop that takes a minute was left out
pub record Short {G : Chart} {go end : ℕ → Type 0} {s : ℕ} (p : Path G go end s) : Type 0 where
  pub path : Path G go end s
  pub short : steps path < states G
  pub no_longer : minutes path ≤ minutes p
  pub quicker : minutes path < minutes p → Slow G go end s

module _ {G : Chart} {go end : ℕ → Type 0} where
  cut : {s : ℕ} (p : Path G go end s) (i u : ℕ) → i ≤ steps p → at p i ≡ u → Cut p i u
  cut p zero u l e =
      let f = sym e ∙ at_zero p in
      record {
        front = stop (sym f);
        back = cast f p;
        steps_front = refl;
        steps_all = omega (arith, steps_cast f p);
        minutes_all = omega (arith, minutes_cast f p);
      }
  cut (stop e) (suc i) u l f = absurd (let z : ⊥ = omega arith in z)
  cut (step g x p) (suc i) u l e =
      let c = cut p i u (omega arith) e in
      record {
        front = step g x c.front;
        back = c.back;
        steps_front = omega arith;
        steps_all = omega arith;
        minutes_all = omega arith;
      }

  looped_at : {s : ℕ} (p : Path G go end s) (i j : ℕ) → i < j → j ≤ steps p → at p i ≡ at p j → Looped p
  looped_at {s} p zero j l k e =
      let c = cut p j s k (sym e ∙ at_zero p) in
      record {
        lasso = record { knot = s; stem = stop refl; loop = c.front; exit = c.back };
        some_steps = omega arith;
        steps_all = omega arith;
        minutes_all = omega arith;
      }
  looped_at (stop h) (suc i) j l k e = absurd (let z : ⊥ = omega arith in z)
  looped_at (step g x p) (suc i) zero l k e = absurd (let z : ⊥ = omega arith in z)
  looped_at (step g x p) (suc i) (suc j) l k e =
      let c = looped_at p i j (omega arith) (omega arith) e in
      let w = c.lasso in
      record {
        lasso = record { knot = w.knot; stem = step g x w.stem; loop = w.loop; exit = w.exit };
        some_steps = c.some_steps;
        steps_all = omega arith;
        minutes_all = omega arith;
      }

  -- Of the first n + 1 states of the path two are the same.
  pub looped : Drawn G → {s : ℕ} → s < states G → (p : Path G go end s) → states G ≤ steps p → Looped p
  looped dr l p k =
      let t = pigeonhole (states G) (at p) (λ i h. at_below dr p i l) in
      looped_at p t.i t.j t.order (omega arith) t.same

  -- ── The loop left out ──

  skip :
      {s : ℕ} (p : Path G go end s) (c : Looped p) →
      (q : Path G go end s) × (steps q < steps p) × (minutes q + minutes c.lasso.loop ≡ minutes p)
  skip p c =
      let w = c.lasso in
      let e = steps_append w.knot w.stem w.exit in
      let f = minutes_append w.knot w.stem w.exit in
      (append w.knot w.stem w.exit, omega arith, omega arith)

  module _ (dr : Drawn G) {s : ℕ} (low : s < states G) where
    short_already : (p : Path G go end s) → steps p < states G → Short p
    short_already p l =
        record { path = p; short = l; no_longer = omega arith; quicker = λ h. absurd (let z : ⊥ = omega arith in z) }

    shorten_by : (f : ℕ) (p : Path G go end s) → steps p ≤ f → Short p
    shorten_by zero p k = short_already p (omega arith)
    shorten_by (suc f) p k = turn (shorten_by f) (dec_le (states G) (steps p))
      where
        turn : ((q : Path G go end s) → steps q ≤ f → Short q) → Dec (states G ≤ steps p) → Short p
        turn ih (no h) = short_already p (omega arith)
        turn ih (yes h) =
            let c = looped dr low p h in
            let w = skip p c in
            let q = ih w.0 (omega (arith, w.1)) in
            let minute = dec_le 1 (minutes c.lasso.loop) in
            record {
              path = q.path;
              short = q.short;
              no_longer = omega (arith, w.2);
              quicker = λ j. by_cases minute (λ m. (c.lasso, m)) (λ m. q.quicker (omega (arith, w.2)));
            }

    -- While the path has n steps or more, leave out one of its loops.
    pub shorten : (p : Path G go end s) → Short p
    shorten p = shorten_by (steps p) p (omega arith)

  -- ── The loop taken again ──

  -- k times round the loop, and then on
  abbrev pump : {u : ℕ} → Path G go (To u) u → Path G go end u → ℕ → Path G go end u
  pump r o zero = o
  pump {u} r o (suc k) = append u r (pump r o k)

  minutes_pump :
      {u : ℕ} (r : Path G go (To u) u) (o : Path G go end u) (k : ℕ) → 1 ≤ minutes r → k ≤ minutes (pump r o k)
  minutes_pump r o zero l = omega arith
  minutes_pump {u} r o (suc k) l = omega (arith, minutes_pump r o k l, minutes_append u r (pump r o k))

  -- a loop that takes a minute is taken as often as you like
  pub pumped : {s : ℕ} → Slow G go end s → (c : ℕ) → (p : Path G go end s) × c ≤ minutes p
  pumped h c =
      let w = h.0 in
      let o = pump w.loop w.exit c in
      let e = minutes_append w.knot w.stem o in
      (append w.knot w.stem o, omega (arith, minutes_pump w.loop w.exit c h.1))
