-- The states of a path, and how paths are put together.
use mathlib.Core.Path.{◌≡◌, refl, sym, subst, ◌∙◌}
use Prim.Native.Nat.{ℕ, zero, suc, ◌+◌, ◌<◌}
use native.Mathlib.Omega.{arith}
use Rattle.tctl.specs.Chart.{Chart, states}
use Rattle.tctl.specs.Run.{Step}
use Rattle.tctl.specs.Path.{Path, stop, step, To, steps, minutes}
use Rattle.tctl.proofs.Drawn.{Drawn, step_below}

module _ {G : Chart} {go end : ℕ → Type 0} where
  -- the state after i steps; after the last one, the last
  abbrev pub at : {s : ℕ} → Path G go end s → ℕ → ℕ
  at {s} (stop e) i = s
  at {s} (step g x p) zero = s
  at (step g x p) (suc i) = at p i

  pub at_zero : {s : ℕ} (p : Path G go end s) → at p 0 ≡ s
  at_zero (stop e) = refl
  at_zero (step g x p) = refl

  pub at_below : Drawn G → {s : ℕ} (p : Path G go end s) (i : ℕ) → s < states G → at p i < states G
  at_below dr (stop e) i l = l
  at_below dr (step g x p) zero l = l
  at_below dr (step g x p) (suc i) l = at_below dr p i (step_below dr x)

  -- the last state
  pub last : {s : ℕ} → Path G go end s → (e : ℕ) × end e
  last (stop {s} h) = (s, h)
  last (step g x p) = last p

-- a step between equal states
abbrev pub step_cast : {G : Chart} {s u d t v : ℕ} → s ≡ u → t ≡ v → Step G u d v → Step G s d t
step_cast e f x =
    record {
      arrow = x.arrow;
      drawn = x.drawn;
      leaves = x.leaves ∙ sym e;
      enters = x.enters ∙ sym f;
      least = x.least;
      greatest = x.greatest;
    }

module _ {G : Chart} {go end : ℕ → Type 0} where
  -- a path from an equal state
  abbrev pub cast : {s u : ℕ} → s ≡ u → Path G go end u → Path G go end s
  cast e (stop h) = stop (subst end (sym e) h)
  cast e (step g x p) = step (subst go (sym e) g) (step_cast e refl x) p

  pub steps_cast : {s u : ℕ} (e : s ≡ u) (p : Path G go end u) → steps (cast e p) ≡ steps p
  steps_cast e (stop h) = refl
  steps_cast e (step g x p) = refl

  pub minutes_cast : {s u : ℕ} (e : s ≡ u) (p : Path G go end u) → minutes (cast e p) ≡ minutes p
  minutes_cast e (stop h) = refl
  minutes_cast e (step g x p) = refl

  -- a path to u, and then a path from u
  abbrev pub append : (u : ℕ) {s : ℕ} → Path G go (To u) s → Path G go end u → Path G go end s
  append u (stop e) q = cast e q
  append u (step g x p) q = step g x (append u p q)

  pub steps_append :
      (u : ℕ) {s : ℕ} (p : Path G go (To u) s) (q : Path G go end u) → steps (append u p q) ≡ steps p + steps q
  steps_append u (stop e) q = omega (arith, steps_cast e q)
  steps_append u (step g x p) q = omega (arith, steps_append u p q)

  pub minutes_append :
      (u : ℕ) {s : ℕ} (p : Path G go (To u) s) (q : Path G go end u) →
      minutes (append u p q) ≡ minutes p + minutes q
  minutes_append u (stop e) q = omega (arith, minutes_cast e q)
  minutes_append u (step g x p) q = omega (arith, minutes_append u p q)

module _
    {G : Chart} {go go' end end' : ℕ → Type 0} (f : (x : ℕ) → go x → go' x) (g : (x : ℕ) → end x → end' x) where
  -- the same path, of whose states less is said
  abbrev pub weaken : {s : ℕ} → Path G go end s → Path G go' end' s
  weaken (stop {s} e) = stop (g s e)
  weaken (step {s} h x p) = step (f s h) x (weaken p)

  pub steps_weaken : {s : ℕ} (p : Path G go end s) → steps (weaken p) ≡ steps p
  steps_weaken (stop e) = refl
  steps_weaken (step h x p) = omega (arith, steps_weaken p)

  pub minutes_weaken : {s : ℕ} (p : Path G go end s) → minutes (weaken p) ≡ minutes p
  minutes_weaken (stop e) = refl
  minutes_weaken (step h x p) = omega (arith, minutes_weaken p)
