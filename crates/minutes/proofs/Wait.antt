-- The waits of an until with no bound: a state makes it at once, or by a step to one that does, after a wait less where
-- the step takes time.
use mathlib.Core.Path.{◌≡◌, refl, subst}
use mathlib.Core.Bool.{Bool, true, not, cond, ◌||◌}
use Prim.Native.Nat.{ℕ, zero, suc, ◌-◌, ◌≤◌, ◌<◌, min}
use native.Mathlib.Omega.{arith}
use native.Mathlib.Decide.{dec_le}
use Rattle.base.specs.Yes.{Yes}
use Rattle.base.proofs.Truth.{not_iff, and_iff}
use Rattle.tctl.specs.Chart.{Chart, states}
use Rattle.tctl.specs.Run.{Step}
use Rattle.tctl.specs.Formula.{at_most}
use Rattle.tctl.proofs.Drawn.{Drawn, step_below}
use Rattle.tctl.proofs.AllAtMost.{Waits}
use Rattle.minutes.specs.Makes.{Task, Makes, stops, goes}
use Rattle.minutes.specs.Untils.{task_of, plain}
use Rattle.minutes.proofs.Rounds.{makes_iff}

-- the answers after k waits, and what the next wait asks
abbrev pub waited : Chart → Bool → (ℕ → Bool) → (ℕ → Bool) → ℕ → ℕ → Bool
waited G all p q k = plain G.arrows (states G) all p q k

abbrev pub wait_task : Chart → Bool → (ℕ → Bool) → (ℕ → Bool) → ℕ → Task
wait_task G all p q k = task_of all (at_most 0) p q (waited G all p q k)

module _ {G : Chart} (dr : Drawn G) (all : Bool) (p q : ℕ → Bool) where
  pub wait_makes : (k s : ℕ) → s < states G → waited G all p q (suc k) s ≡ true → Makes G (wait_task G all p q k) 1 s
  unfolding plain
  wait_makes k s l h = (makes_iff dr (wait_task G all p q k) 1 s l).0 h

  makes_wait : (k s : ℕ) → s < states G → Makes G (wait_task G all p q k) 1 s → waited G all p q (suc k) s ≡ true
  unfolding plain
  makes_wait k s l v = (makes_iff dr (wait_task G all p q k) 1 s l).1 v

  -- Before the first wait `all` answers. After it a state that makes it at once says yes,
  pub wait_here :
      (k : ℕ) → (k ≡ 0 → all ≡ true) → {s : ℕ} → s < states G → cond all (not (p s || q s)) (q s) ≡ true →
      waited G all p q k s ≡ true
  unfolding plain
  wait_here zero none l h = none refl
  wait_here (suc k) none {s} l h = makes_wait k s l (stops h)

  -- and so does one with a step to one that does. A step of 0 minutes stays in the row with no minute left; any other
  -- leads beyond it, to what the wait before found.
  pub wait_ahead :
      (k : ℕ) → (k ≡ 0 → all ≡ true) → {s d t : ℕ} → s < states G → Waits (Yes p) (Yes q) s → Step G s d t →
      waited G all p q (k - min 1 d) t ≡ true → waited G all p q k s ≡ true
  unfolding plain
  wait_ahead zero none l g y h = none refl
  wait_ahead (suc k) none {s} {d} {t} l g y h =
      makes_wait k s l (goes ((and_iff (p s) (not (q s))).1 (g.0, (not_iff (q s)).1 g.1)) y (there (dec_le 1 d)))
    where
      there : Dec (1 ≤ d) → Makes G (wait_task G all p q k) (1 - d) t
      there (yes i) =
          let e : suc k - min 1 d ≡ k = omega arith in
          let f : 0 ≡ 1 - d = omega arith in
          subst (λ r. Makes G (wait_task G all p q k) r t) f (stops (subst (λ j. waited G all p q j t ≡ true) e h))
      there (no i) =
          let e : suc k - min 1 d ≡ suc k = omega arith in
          let f : 1 ≡ 1 - d = omega arith in
          subst (λ r. Makes G (wait_task G all p q k) r t) f
          (wait_makes k t (step_below dr y) (subst (λ j. waited G all p q j t ≡ true) e h))
