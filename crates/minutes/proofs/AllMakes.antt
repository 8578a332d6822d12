-- To fail an until: where a state makes it at the moment k, some run does not meet the until; where it does
-- not, each run does, whatever the bound.
use mathlib.Core.Path.{◌≡◌, sym, subst}
use mathlib.Core.Logic.{◌⊎◌, inl, inr, ⊎_elim}
use mathlib.Core.Bool.{Bool, true, false, not, ◌||◌, false≢true}
use Prim.Native.Nat.{ℕ, zero, suc, ◌+◌, ◌-◌, ◌≤◌, ◌<◌}
use native.Mathlib.Omega.{arith}
use Rattle.base.specs.Sum.{sum}
use Rattle.base.specs.Yes.{Yes}
use Rattle.base.proofs.Truth.{true_or_false, not_iff, and_iff}
use Rattle.tctl.specs.Chart.{Chart, states}
use Rattle.tctl.specs.Run.{Run, moment}
use Rattle.tctl.specs.Formula.{Bound, Meets}
use Rattle.tctl.proofs.Drawn.{Drawn, step_below}
use Rattle.tctl.proofs.Run.{Lively, first, after, moment_after}
use Rattle.tctl.proofs.Until.{Until, now, later}
use Rattle.tctl.proofs.Unmet.{Unmet, unmet_here, unmet_ahead}
use Rattle.minutes.specs.Makes.{Task, goes_at, Makes, stops, goes}
use Rattle.minutes.specs.Untils.{row_of, met_at, task_of}
use Rattle.minutes.proofs.Tests.{nor_iff, three_ways}
use Rattle.minutes.proofs.Bounds.{met_iff}

-- every run from s meets the until, if s has the moment k
abbrev pub MetBy : Chart → (ℕ → Bool) → (ℕ → Bool) → Bound → ℕ → ℕ → Type 0
MetBy G p q b k s = (r : Run G s) → Until (Yes p) (Yes q) b k r.state r.duration

module _
    {G : Chart}
    (dr : Drawn G)
    (live : Lively G)
    (p q : ℕ → Bool)
    (b : Bound)
    (x : ℕ → Bool)
    (beyond-unmet : (k s : ℕ) → row_of b ≤ k → s < states G → x s ≡ true → Unmet G (Yes p) (Yes q) b k s)
    (beyond-met : (k s : ℕ) → row_of b ≤ k → s < states G → x s ≡ false → MetBy G p q b k s) where
  abbrev task : Task
  task = task_of true b p q x

  not_met : (k m s : ℕ) → suc m ≡ row_of b - k → ¬ (met_at b q m s ≡ true) → Meets b k → ¬ Yes q s
  not_met k m s e f i h = f ((met_iff b q k m s e).1 (i, h))

  makes_unmet :
      {r s : ℕ} → Makes G task r s → (k : ℕ) → r ≡ row_of b - k → s < states G → Unmet G (Yes p) (Yes q) b k s
  makes_unmet (stops {r = zero} {s} h) k e l = beyond-unmet k s (omega arith) l h
  makes_unmet (stops {r = suc m} {s} h) k e l =
      let f = (nor_iff (p s) (met_at b q m s)).0 h in
      unmet_here (not_met k m s e f.1) f.0 (live s l)
  makes_unmet (goes {r = zero} g y v) k e l = absurd (false≢true g)
  makes_unmet (goes {r = suc m} {s} {d} {t} g y v) k e l =
      let f = (not_iff (met_at b q m s)).0 ((and_iff (p s) (not (met_at b q m s))).0 g).1 in
      unmet_ahead (not_met k m s e f) y (makes_unmet v (k + d) (omega arith) (step_below dr y))

  -- where s does not make it: beyond the bound x answers, and before it the until is met at s, or is still open
  settled :
      (r k s : ℕ) → r ≡ row_of b - k → s < states G → ¬ Makes G task r s →
      MetBy G p q b k s ⊎ ((1 ≤ r) × Yes p s × (goes_at task r s ≡ true))
  settled zero k s e l none =
      ⊎_elim (λ h. absurd (none (stops h))) (λ h. inl (beyond-met k s (omega arith) l h)) (true_or_false (x s))
  settled (suc m) k s e l none = turn (three_ways (p s) (met_at b q m s))
    where
      turn :
          (not (p s || met_at b q m s) ≡ true) ⊎
          ((met_at b q m s ≡ true) ⊎ ((p s ≡ true) × (not (met_at b q m s) ≡ true))) →
          MetBy G p q b k s ⊎ ((1 ≤ suc m) × Yes p s × (goes_at task (suc m) s ≡ true))
      turn (inl h) = absurd (none (stops h))
      turn (inr (inl h)) =
          let w = (met_iff b q k m s e).0 h in
          inl (λ c. now w.0 (subst (Yes q) (sym c.starts) w.1))
      turn (inr (inr h)) = inr (omega arith, h.0, (and_iff (p s) (not (met_at b q m s))).1 h)

  -- Along the run, while the until is open: by position i, which is beyond the bound, it is settled.
  met_unless :
      (i k r : ℕ) {s : ℕ} → r ≡ row_of b - k → s < states G → ¬ Makes G task r s →
      (c : Run G s) → row_of b ≤ k + moment c i →
      Until (Yes p) (Yes q) b k c.state c.duration
  unfolding sum
  met_unless zero k r {s} e l none c h =
      ⊎_elim (λ w. w c) (λ o. absurd (let z : ⊥ = omega (arith, o.0) in z)) (settled r k s e l none)
  met_unless (suc i) k r {s} e l none c h =
      let d = c.duration 0 in
      let ih = met_unless i (k + d) (r - d) (omega arith) (step_below dr (first c)) in
      ⊎_elim (λ w. w c)
      (λ o.
      later (subst (Yes p) (sym c.starts) o.1)
      (ih (λ v. none (goes o.2 (first c) v)) (after c)
      (omega (arith, moment_after c i))))
      (settled r k s e l none)

  pub all_unmet : (s : ℕ) → s < states G → Makes G task (row_of b) s → Unmet G (Yes p) (Yes q) b 0 s
  all_unmet s l v = makes_unmet v 0 (omega arith) l

  pub all_met : (s : ℕ) → s < states G → ¬ Makes G task (row_of b) s → MetBy G p q b 0 s
  all_met s l none c =
      let i = c.passes (row_of b) in
      met_unless i.0 0 (row_of b) (omega arith) l none c (omega (arith, i.1))
