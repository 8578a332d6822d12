-- To meet an until: at the moment k a state makes it just where some path meets the bound, whatever the bound.
use mathlib.Core.Path.{◌≡◌, sym, subst, ◌∙◌}
use mathlib.Core.Logic.{◌↔◌, ◌⊎◌, inl, inr, ⊎_elim}
use mathlib.Core.Bool.{Bool, true, false, not, false≢true}
use Prim.Native.Nat.{ℕ, zero, suc, ◌+◌, ◌-◌, ◌≤◌, ◌<◌}
use native.Mathlib.Omega.{arith}
use Rattle.base.specs.Yes.{Yes}
use Rattle.base.proofs.Truth.{true_or_false, and_iff}
use Rattle.tctl.specs.Chart.{Chart, states}
use Rattle.tctl.specs.Run.{Step}
use Rattle.tctl.specs.Formula.{Bound, Meets}
use Rattle.tctl.specs.Path.{Path, stop, step, minutes}
use Rattle.tctl.proofs.Drawn.{Drawn, step_below}
use Rattle.minutes.specs.Makes.{Task, goes_at, Makes, stops, goes}
use Rattle.minutes.specs.Untils.{row_of, met_at, task_of}
use Rattle.minutes.proofs.Bounds.{met_iff}

-- a path that meets the bound, if s has the moment k
abbrev pub MetFrom : Chart → (ℕ → Bool) → (ℕ → Bool) → Bound → ℕ → ℕ → Type 0
MetFrom G p q b k s = (w : Path G (Yes p) (Yes q) s) × Meets b (k + minutes w)

module _
    {G : Chart}
    (dr : Drawn G)
    (p q : ℕ → Bool)
    (b : Bound)
    (x : ℕ → Bool)
    (beyond_iff : (k s : ℕ) → row_of b ≤ k → s < states G → (x s ≡ true) ↔ MetFrom G p q b k s) where
  abbrev task : Task
  task = task_of false b p q x

  ahead : (k : ℕ) {s d t : ℕ} → Yes p s → Step G s d t → MetFrom G p q b (k + d) t → MetFrom G p q b k s
  ahead k {d = d} g y w =
      let z : k + d + minutes w.0 ≡ k + (d + minutes w.0) = omega arith in
      (step g y w.0, subst (Meets b) z w.1)

  makes_met : {r s : ℕ} → Makes G task r s → (k : ℕ) → r ≡ row_of b - k → s < states G → MetFrom G p q b k s
  makes_met (stops {r = zero} {s} h) k e l = (beyond_iff k s (omega arith) l).0 h
  makes_met (stops {r = suc m} {s} h) k e l =
      let w = (met_iff b q k m s e).0 h in
      let z : k ≡ k + 0 = omega arith in
      (stop w.1, subst (Meets b) z w.0)
  makes_met (goes {r = zero} g y v) k e l = absurd (false≢true g)
  makes_met (goes {r = suc m} {s} {d} {t} g y v) k e l =
      ahead k ((and_iff (p s) (not (met_at b q m s))).0 g).0 y (makes_met v (k + d) (omega arith) (step_below dr y))

  -- beyond the bound x answers, and before it a state that meets the until makes it at once; else it goes on
  settled :
      (r k s : ℕ) → r ≡ row_of b - k → s < states G → MetFrom G p q b k s →
      Makes G task r s ⊎ ((p s ≡ true → goes_at task r s ≡ true) × (¬ (Meets b k × Yes q s)))
  settled zero k s e l w = inl (stops ((beyond_iff k s (omega arith) l).1 w))
  settled (suc m) k s e l w = turn (true_or_false (met_at b q m s))
    where
      turn :
          (met_at b q m s ≡ true) ⊎ (met_at b q m s ≡ false) →
          Makes G task (suc m) s ⊎ ((p s ≡ true → goes_at task (suc m) s ≡ true) × (¬ (Meets b k × Yes q s)))
      turn (inl f) = inl (stops f)
      turn (inr f) =
          inr (
            λ g. (and_iff (p s) (not (met_at b q m s))).1 (g, rw f),
            λ h. false≢true (sym f ∙ (met_iff b q k m s e).1 h),
          )

  -- by induction on the path, as long as nothing is settled
  met_makes :
      {s : ℕ} (w : Path G (Yes p) (Yes q) s) (k r : ℕ) → r ≡ row_of b - k → Meets b (k + minutes w) → s < states G →
      Makes G task r s
  met_makes (stop {s} f) k r e h l =
      let z : k + 0 ≡ k = omega arith in
      ⊎_elim (λ v. v) (λ o. absurd (o.1 (subst (Meets b) z h, f))) (settled r k s e l (stop f, h))
  met_makes (step {s} {d} {t} g y w) k r e h l =
      let z : k + (d + minutes w) ≡ k + d + minutes w = omega arith in
      let v = met_makes w (k + d) (r - d) (omega arith) (subst (Meets b) z h) (step_below dr y) in
      ⊎_elim (λ v. v) (λ o. goes (o.0 g) y v) (settled r k s e l (step g y w, h))

  pub some_makes :
      (s : ℕ) → s < states G → Makes G task (row_of b) s ↔ ((w : Path G (Yes p) (Yes q) s) × Meets b (minutes w))
  some_makes s l = (
    λ v.
        let w = makes_met v 0 (omega arith) l in
        let z : 0 + minutes w.0 ≡ minutes w.0 = omega arith in
        (w.0, subst (Meets b) z w.1),
    λ w.
        let z : minutes w.0 ≡ 0 + minutes w.0 = omega arith in
        met_makes w.0 0 (row_of b) (omega arith) (subst (Meets b) z w.1) l,
  )
