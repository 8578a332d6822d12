-- To meet an until with no bound: after n waits the answer is yes just where there is a path.
use mathlib.Core.Path.{◌≡◌}
use mathlib.Core.Logic.{◌↔◌, by_cases}
use mathlib.Core.Bool.{Bool, true, false, not, false≢true}
use Prim.Native.Nat.{ℕ, zero, suc, ◌-◌, ◌<◌, min}
use native.Mathlib.Omega.{arith}
use Rattle.base.specs.Yes.{Yes}
use Rattle.base.proofs.Truth.{yes_dec, and_iff}
use Rattle.tctl.specs.Chart.{Chart, states}
use Rattle.tctl.specs.Path.{Path, stop, step, steps}
use Rattle.tctl.proofs.Drawn.{Drawn, step_below}
use Rattle.tctl.proofs.Loop.{shorten}
use Rattle.minutes.specs.Makes.{Makes, stops, goes}
use Rattle.minutes.specs.Untils.{plain}
use Rattle.minutes.proofs.Wait.{waited, wait_task, wait_makes, wait_here, wait_ahead}

module _ {G : Chart} (dr : Drawn G) (p q : ℕ → Bool) where
  makes_path :
      (k : ℕ) → ((s : ℕ) → s < states G → waited G false p q k s ≡ true → Path G (Yes p) (Yes q) s) →
      {r s : ℕ} → Makes G (wait_task G false p q k) r s → s < states G → Path G (Yes p) (Yes q) s
  makes_path k ih (stops {r = zero} {s} h) l = ih s l h
  makes_path k ih (stops {r = suc m} h) l = stop h
  makes_path k ih (goes {r = zero} g y v) l = absurd (false≢true g)
  makes_path k ih (goes {r = suc m} {s} g y v) l =
      step ((and_iff (p s) (not (q s))).0 g).0 y (makes_path k ih v (step_below dr y))

  waited_path : (k s : ℕ) → s < states G → waited G false p q k s ≡ true → Path G (Yes p) (Yes q) s
  unfolding plain
  waited_path zero s l h = absurd (false≢true h)
  waited_path (suc k) s l h = makes_path k (waited_path k) (wait_makes dr false p q k s l h) l

  -- a step costs a wait at most
  path_waited :
      {s : ℕ} (w : Path G (Yes p) (Yes q) s) (k : ℕ) → steps w < k → s < states G → waited G false p q k s ≡ true
  path_waited (stop f) k h l = wait_here dr false p q k (λ e. absurd (let z : ⊥ = omega arith in z)) l f
  path_waited (step {s} {d} g y w) k h l =
      let some : k ≡ 0 → false ≡ true = λ e. absurd (let z : ⊥ = omega arith in z) in
      let ih = path_waited w (k - min 1 d) (omega arith) (step_below dr y) in
      by_cases (yes_dec q s) (wait_here dr false p q k some l) (λ f. wait_ahead dr false p q k some l (g, f) y ih)

  -- A path without loops has fewer than n steps.
  pub plain_some_iff :
      (s : ℕ) → s < states G →
      (plain G.arrows (states G) false p q (states G) s ≡ true) ↔ Path G (Yes p) (Yes q) s
  plain_some_iff s l = (
    waited_path (states G) s l,
    λ w. let x = shorten dr l w in path_waited x.path (states G) x.short l,
  )
