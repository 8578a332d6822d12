-- The all-until with "at least c", c above 0: it is met along every run just if no path comes to a bad state before the
-- moment c. Let x be the first position whose moment is c or more: the until is met just if P holds before x and the
-- until with no bound is met from x on.
use mathlib.Core.Path.{sym, subst}
use mathlib.Core.Logic.{◌⊎◌, inl, inr, by_cases}
use Prim.Native.Nat.{ℕ, zero, suc, ◌+◌, ◌≤◌, ◌<◌}
use native.Mathlib.Omega.{arith}
use native.Mathlib.Decide.{dec_le}
use Rattle.base.specs.Sum.{sum}
use Rattle.tctl.specs.Chart.{Chart, states}
use Rattle.tctl.specs.Run.{Run, Step, moment}
use Rattle.tctl.specs.Formula.{at_least}
use Rattle.tctl.proofs.Drawn.{Drawn, step_below}
use Rattle.tctl.specs.Path.{Path, stop, step, minutes}
use Rattle.tctl.proofs.Run.{Lively, first, after, moment_after}
use Rattle.tctl.proofs.Until.{Until, later, until_weaken}
use Rattle.tctl.proofs.Unmet.{Unmet, unmet_here, unmet_ahead, unmet_weaken}

-- after s the until may fail: P is missing at s, or a step leads to where it may fail with no bound
pub data Open (G : Chart) (P Q : ℕ → Type 0) (s : ℕ) : Type 0 where
  fails : ¬ P s → Open G P Q s
  leads : {d t : ℕ} → Step G s d t → Unmet G P Q (at_least 0) 0 t → Open G P Q s

-- after s the until is met: P holds at s, and after each step it is met with no bound
pub record Sure (G : Chart) (P Q : ℕ → Type 0) (s : ℕ) : Type 0 where
  pub holds : P s
  pub onward :
      {d t : ℕ} → Step G s d t → (r : Run G t) → Until P Q (at_least 0) 0 r.state r.duration

module _ {G : Chart} (dr : Drawn G) {P Q go bad : ℕ → Type 0} {c : ℕ} where
  -- before the moment c it is not met, and after the path it may fail
  pub early_unmet :
      Lively G → ((s : ℕ) → s < states G → bad s → Open G P Q s) →
      (k : ℕ) {s : ℕ} → s < states G → (p : Path G go bad s) → k + minutes p < c → Unmet G P Q (at_least c) k s
  early_unmet live opens k l (stop {s} b) h = turn (opens s l b)
    where
      too_early : c ≤ k → ¬ Q s
      too_early m = absurd (let z : ⊥ = omega arith in z)

      turn : Open G P Q s → Unmet G P Q (at_least c) k s
      turn (fails f) = unmet_here too_early f (live s l)
      turn (leads x u) = unmet_ahead too_early x (unmet_weaken (λ m i. omega arith) u)
  early_unmet live opens k l (step {d = d} g x p) h =
      let u = early_unmet live opens (k + d) (step_below dr x) p (omega arith) in
      unmet_ahead (λ m. absurd (let z : ⊥ = omega arith in z)) x u

  module _ (all : (s : ℕ) → go s) (sure : (s : ℕ) → s < states G → bad s ⊎ Sure G P Q s) where
    -- Along the run no state is bad while the moment is below c, for otherwise a path comes to it. With the step that
    -- comes to c the until is met with no bound.
    met_from :
        (i k : ℕ) {s : ℕ} → s < states G → k < c → ((p : Path G go bad s) → c ≤ k + minutes p) →
        (r : Run G s) → c ≤ k + moment r i → Until P Q (at_least c) k r.state r.duration
    unfolding sum
    met_from zero k l m far r h = absurd (let z : ⊥ = omega arith in z)
    met_from (suc i) k {s} l m far r h =
        turn
        (λ n w. met_from i (k + d) (step_below dr (first r)) n w (after r) (omega (arith, moment_after r i)))
        (sure s l)
      where
        d : ℕ
        d = r.duration 0

        Rest : Type 0
        Rest = Until P Q (at_least c) (k + d) (after r).state (after r).duration

        turn :
            (k + d < c → ((p : Path G go bad (r.state 1)) → c ≤ k + d + minutes p) → Rest) →
            bad s ⊎ Sure G P Q s →
            Until P Q (at_least c) k r.state r.duration
        turn ih (inl b) = absurd (let z : ⊥ = omega (arith, far (stop b)) in z)
        turn ih (inr y) = later (subst P (sym r.starts) y.holds) (by_cases (dec_le c (k + d)) due early)
          where
            due : c ≤ k + d → Rest
            due n = until_weaken (λ m i. omega arith) (y.onward (first r) (after r))

            early : ¬ (c ≤ k + d) → Rest
            early n = ih (omega arith) (λ p. let z = far (step (all s) (first r) p) in omega arith)

    pub met_unless_early :
        {s : ℕ} → s < states G → 0 < c → ((p : Path G go bad s) → c ≤ minutes p) →
        (r : Run G s) → Until P Q (at_least c) 0 r.state r.duration
    met_unless_early l m far r =
        let x = r.passes c in
        met_from x.0 0 l m (λ p. let z = far p in omega arith) r (omega (arith, x.1))
