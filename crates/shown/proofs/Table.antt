-- The numbers of the table by steps: what an arrow adds to a row, whose worth a number is, and how high they are.
use mathlib.Core.Path.{◌≡◌, refl, ap}
use mathlib.Core.List.{List, Memᴰ}
use mathlib.Core.Bool.{Bool, true, false, cond}
use Prim.Native.Nat.{ℕ, zero, suc, ◌≤◌}
use native.Mathlib.Omega.{arith}
use lib.ListN.{length}
use lib.Dec.{eqb}
use borrow.Author.Tests.{eq-eqb}
use Rattle.base.specs.Yes.{Yes}
use Rattle.base.proofs.Truth.{and_iff, cond_elim}
use Rattle.tctl.specs.Chart.{Arrow}
use Rattle.shown.specs.Steps.{Quest, best, by_step, is_best, first_arrow, walk}
use Rattle.shown.proofs.Best.{best_ge, best_found, best_le}

-- a choice that is not 0
chosen : (b : Bool) (x : ℕ) → 1 ≤ cond b x 0 → (b ≡ true) × (cond b x 0 ≡ x)
chosen true x h = (refl, refl)
chosen false x h = absurd (let z : ⊥ = omega arith in z)

-- what an arrow offers s, by the numbers of a step less
abbrev pub offers : Quest → (ℕ → ℕ) → ℕ → Arrow → ℕ
offers z row s a = cond (eqb a.start s) (z.worth a (row a.end)) 0

module _ (arrows : List Arrow) (z : Quest) where
  abbrev T : ℕ → ℕ → ℕ
  T = by_step arrows z

  -- a step more is worth at least what each arrow offers
  pub table_ge :
      {a : Arrow} → Memᴰ a arrows → {s t : ℕ} → a.start ≡ s → a.end ≡ t → Yes z.go s → (k : ℕ) →
      z.worth a (by_step arrows z k t) ≤ by_step arrows z (suc k) s
  unfolding by_step
  table_ge {a} m {s} {t} e f g k =
      let i = ap (λ b. cond b (z.worth a (T k a.end)) 0) (eq-eqb a.start s e) in
      let j = ap (λ x. z.worth a (T k x)) f in
      let o = ap (λ b. cond b (best (offers z (T k) s) arrows) 0) g in
      omega (arith, best_ge (offers z (T k) s) arrows m)

  -- and above 0 it is what some arrow offers: the greatest of the offers is one of them, and not that of an arrow from
  -- elsewhere, which is 0
  pub table_found :
      (k s : ℕ) → 1 ≤ by_step arrows z (suc k) s →
      Yes z.go s × (a : Arrow) × Memᴰ a arrows × (is_best arrows z k s a ≡ true)
  unfolding by_step
  table_found k s h =
      let g = chosen (z.go s) (best (offers z (T k) s) arrows) h in
      let w = best_found (offers z (T k) s) arrows (omega (arith, g.1)) in
      let a = w.0 in
      let worth = z.worth a (T k a.end) in
      let e = chosen (eqb a.start s) worth (omega (arith, g.1, w.2)) in
      let same : worth ≡ T (suc k) s = omega (arith, e.1, w.2, g.1) in (
        g.0,
        a,
        w.1,
        (and_iff (eqb a.start s) (eqb worth (T (suc k) s))).1 (e.0, eq-eqb worth (T (suc k) s) same),
      )

  -- no number is above h, if no base is and no arrow goes above it
  pub table_low :
      (h : ℕ) → ((s : ℕ) → z.base s ≤ h) → ((a : Arrow) (v : ℕ) → v ≤ h → z.worth a v ≤ h) → (k s : ℕ) →
      by_step arrows z k s ≤ h
  unfolding by_step
  table_low h bases worths zero s = bases s
  table_low h bases worths (suc k) s =
      let low : (a : Arrow) → offers z (T k) s a ≤ h =
      λ a.
      cond_elim (λ v. v ≤ h) (eqb a.start s)
      (λ e. worths a (T k a.end) (table_low h bases worths k a.end)) (λ e. omega arith) in
      cond_elim (λ v. v ≤ h) (z.go s) (λ e. best_le (offers z (T k) s) h low arrows) (λ e. omega arith)

pub walk_length : (arrows : List Arrow) (z : Quest) (k s : ℕ) → length (walk arrows z k s) ≡ suc k
unfolding walk
walk_length arrows z zero s = refl
walk_length arrows z (suc k) s = ap suc (walk_length arrows z k (first_arrow (is_best arrows z k s) arrows).end)
