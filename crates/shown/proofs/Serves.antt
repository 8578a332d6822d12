-- An arrow serves just where a duration of its slot does, and then its first one does.
use mathlib.Core.Path.{◌≡◌, refl, sym, ap, ap₂, ◌∙◌}
use mathlib.Core.Logic.Iff
use mathlib.Core.Logic.{◌↔◌}
use mathlib.Core.List.{List}
use mathlib.Core.Option.{Option, none, some}
use mathlib.Core.Bool.{Bool, true, false, false≢true, ◌&&◌}
use Prim.Native.Nat.{ℕ, zero, suc, ◌-◌, ◌≤◌, ◌<◌}
use native.Mathlib.Omega.{arith}
use lib.Dec.{eqb}
use native.Mathlib.Decide.{ℕ_discrete}
use borrow.Author.Tests.{eqb-true, eq-eqb, ne_eqb}
use Rattle.base.specs.Yes.{Yes}
use Rattle.base.proofs.Truth.{and_iff, both_iff}
use Rattle.base.proofs.Compare.{leb_iff}
use Rattle.outcome.specs.Refusal.{found, or_else, lowest}
use Rattle.outcome.proofs.Lowest.{some_lowest, offender_found}
use Rattle.tctl.specs.Chart.{Arrow, Most, up_to, no_end, Within}
use Rattle.minutes.proofs.Any.{any_iff}
use Rattle.minutes.proofs.Tests.{decide_same}
use Rattle.shown.specs.Exact.{Takes, Serves, Onward, within, suits, first_minutes, serves, reaches, or_number}

within_iff : (n : Most) (d : ℕ) → (within d n ≡ true) ↔ Within d n
within_iff (up_to g) d = leb_iff d g
within_iff no_end d = (λ e. tt, λ h. refl)

module _ (f : ℕ → ℕ → Bool) (m : ℕ) (a : Arrow) where
  suits_iff : (d : ℕ) → d ≤ m → (suits f m a d ≡ true) ↔ (Takes a m d × (f (m - d) a.end ≡ true))
  suits_iff d l =
      Iff.trans (both_iff (leb_iff a.fewest d) (both_iff (within_iff a.most d) Iff.rfl)) (
        λ h. (record { inside = l; least = h.0; greatest = h.1.0 }, h.1.1),
        λ h. (h.0.least, (h.0.greatest, h.1)),
      )

  -- the first of its minutes that is found
  pub serves_first : (s : ℕ) → serves f m s a ≡ true → Serves f m s a (or_number 0 (first_minutes f m a))
  serves_first s h =
      let w = (and_iff (eqb a.start s) (found (first_minutes f m a))).0 h in
      turn (eqb-true a.start s w.0) (first_minutes f m a) refl w.1
    where
      turn :
          a.start ≡ s → (o : Option ℕ) → first_minutes f m a ≡ o → found o ≡ true → Serves f m s a (or_number 0 o)
      turn e (some d) i h =
          let l = some_lowest (suits f m a) (suc m) d i in
          let w = (suits_iff d (omega (arith, l.inside))).0 l.offends in
          record { leaves = e; takes = w.0; there = w.1 }
      turn e none i h = absurd (false≢true h)

  pub serves_iff : (s : ℕ) → (serves f m s a ≡ true) ↔ ((d : ℕ) × Serves f m s a d)
  serves_iff s = (
    λ h. (or_number 0 (first_minutes f m a), serves_first s h),
    λ w.
        let d = w.0 in
        let v = w.1 in
        let low = v.takes.inside in
        let suit = (suits_iff d low).1 (v.takes, v.there) in
        (and_iff (eqb a.start s) (found (first_minutes f m a))).1
        (eq-eqb a.start s v.leaves, offender_found (suits f m a) {k = suc m} {i = d} (omega arith) suit),
  )

-- ── By two tests ──

-- tests that agree below k have the same lowest number there
pub lowest_same : (f g : ℕ → Bool) (k : ℕ) → ((i : ℕ) → i < k → f i ≡ g i) → lowest f k ≡ lowest g k
unfolding lowest
lowest_same f g zero h = refl
lowest_same f g (suc k) h =
    ap₂ (λ o b. or_else o b k) (lowest_same f g k (λ i l. h i (omega arith))) (h k (omega arith))

module _ (f g : ℕ → ℕ → Bool) (m : ℕ) (a : Arrow) where
  -- they agree where the arrow can lead
  abbrev Agree : Type 0
  Agree = (d : ℕ) → Takes a m d → f (m - d) a.end ≡ g (m - d) a.end

  pub minutes_same : Agree → first_minutes f m a ≡ first_minutes g m a
  minutes_same h =
      lowest_same (suits f m a) (suits g m a) (suc m)
      (λ d l.
      let low : d ≤ m = omega arith in
      decide_same (suits f m a d) (suits g m a d)
      (Iff.trans (suits_iff f m a d low) (
        λ w. (w.0, sym (h d w.0) ∙ w.1),
        λ w. (w.0, h d w.0 ∙ w.1),
      )) (suits_iff g m a d low))

  pub serves_same : (s : ℕ) → (a.start ≡ s → Agree) → serves f m s a ≡ serves g m s a
  serves_same s h = turn (ℕ_discrete a.start s)
    where
      turn : Dec (a.start ≡ s) → serves f m s a ≡ serves g m s a
      turn (yes e) = ap (λ o. eqb a.start s && found o) (minutes_same (h e))
      turn (no e) = rw (ne_eqb a.start s e)

-- a path of a step more goes on from s, and an arrow leads on to the rest of it
pub reaches_iff :
    (arrows : List Arrow) (p q : ℕ → Bool) (k m s : ℕ) →
    (reaches arrows p q (suc k) m s ≡ true) ↔ (Yes p s × Onward arrows (reaches arrows p q k) m s)
unfolding reaches
reaches_iff arrows p q k m s =
    both_iff Iff.rfl
    (Iff.trans (any_iff (serves on m s) (λ a. serves_iff on m a s) arrows) (
      λ w. record { arrow = w.0; drawn = w.1; minutes = w.2.0; serves = w.2.1 },
      λ y. (y.arrow, y.drawn, (y.minutes, y.serves)),
    ))
  where
    on : ℕ → ℕ → Bool
    on = reaches arrows p q k
