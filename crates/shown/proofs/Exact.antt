-- The reasons for an E-until, exactly c: found by steps and minutes, and walked.
use mathlib.Core.Path.{◌≡◌, refl, sym, ap, subst}
use mathlib.Core.List.{List, Memᴰ}
use mathlib.Core.Bool.{Bool, true}
use Prim.Native.Nat.{ℕ, zero, suc, ◌+◌, ◌-◌, ◌≤◌}
use native.Mathlib.Omega.{arith}
use lib.Dec.{eqb}
use borrow.Author.Tests.{eqb-true, eq-eqb}
use Rattle.base.specs.Yes.{Yes}
use Rattle.base.proofs.Truth.{and_iff}
use Rattle.tctl.specs.Chart.{Chart, Arrow}
use Rattle.tctl.specs.Run.{Step}
use Rattle.tctl.specs.Formula.{exactly}
use Rattle.shown.specs.Shown.{Position}
use Rattle.shown.specs.Steps.{first_arrow}
use Rattle.shown.specs.Exact.{Serves, Onward, first_minutes, serves, reaches, or_number, walk_down}
use Rattle.shown.proofs.Along.{Along, ends, goes, along_some}
use Rattle.shown.proofs.Best.{first_found}
use Rattle.shown.proofs.Reasons.{SomeAlong}
use Rattle.shown.proofs.Serves.{serves_first, serves_iff, reaches_iff}
use Rattle.shown.proofs.Shortest.{Steps, Finds}

pub length_down : (arrows : List Arrow) (f : ℕ → ℕ → ℕ → Bool) (k m s : ℕ) → Steps k (walk_down arrows f k m s)
unfolding walk_down
length_down arrows f zero m s = refl
length_down arrows f (suc k) m s =
    let a = first_arrow (serves (f k) m s) arrows in
    ap suc (length_down arrows f k (m - or_number 0 (first_minutes (f k) m a)) a.end)

-- where an arrow leads on, the first that serves does, in the first of its minutes
pub first_onward :
    (arrows : List Arrow) (f : ℕ → ℕ → Bool) (m s : ℕ) → Onward arrows f m s →
    let a = first_arrow (serves f m s) arrows in
    Memᴰ a arrows × Serves f m s a (or_number 0 (first_minutes f m a))
first_onward arrows f m s w =
    let at = first_found (serves f m s) arrows w.drawn ((serves_iff f m w.arrow s).1 (w.minutes, w.serves)) in
    (at.0, serves_first f m (first_arrow (serves f m s) arrows) s at.1)

module _ (G : Chart) (p q : ℕ → Bool) (c : ℕ) where
  abbrev way : ℕ → ℕ → ℕ → Bool
  way = reaches G.arrows p q

  -- a reason, if s has the moment j
  abbrev From : ℕ → ℕ → List Position → Type 0
  From j s shown = Along G (λ k. Yes p) (λ k x. (k ≡ c) × Yes q x) j s shown

  -- By induction on k: where k steps and the minutes left lead to the end, the walk is a run that ends at c.
  walk_from : (k m j s : ℕ) → j + m ≡ c → way k m s ≡ true → From j s (walk_down G.arrows way k m s)
  unfolding walk_down reaches
  walk_from zero m j s i h =
      let w = (and_iff (eqb m 0) (q s)).0 h in
      ends {k = j} (omega (arith, eqb-true m 0 w.0), w.1)
  walk_from (suc k) m j s i h =
      let w = (reaches_iff G.arrows p q k m s).0 h in
      let a = first_arrow (serves (way k) m s) G.arrows in
      let d = or_number 0 (first_minutes (way k) m a) in
      let y = first_onward G.arrows (way k) m s w.1 in
      let takes = y.1.takes in
      let x : Step G s d a.end =
      record {
        arrow = a;
        drawn = y.0;
        leaves = y.1.leaves;
        enters = refl;
        least = takes.least;
        greatest = takes.greatest;
      } in
      goes w.0 x (walk_from k (m - d) (j + d) a.end (omega (arith, takes.inside)) y.1.there)

  -- it ends at the moment c
  in_time : {j s : ℕ} {shown : List Position} → From j s shown → j ≤ c
  in_time (ends h) = omega (arith, h.0)
  in_time (goes g x w) = omega (arith, in_time w)

  -- By induction along a run: its steps and the minutes up to c are found.
  from_reaches :
      {j s : ℕ} {shown : List Position} → From j s shown → (k m : ℕ) → Steps k shown → j + m ≡ c → way k m s ≡ true
  unfolding reaches
  from_reaches (ends {s = s} h) zero m e i =
      (and_iff (eqb m 0) (q s)).1 (eq-eqb m 0 (omega (arith, h.0)), h.1)
  from_reaches (ends h) (suc k) m e i = absurd (let z : ⊥ = omega arith in z)
  from_reaches (goes g x w) zero m e i = absurd (let z : ⊥ = omega (arith, along_some w) in z)
  from_reaches (goes {k = j} {s} {d} {t} g x w) (suc k) m e i =
      let late = in_time w in
      let rest = from_reaches w k (m - d) (omega arith) (omega arith) in
      (reaches_iff G.arrows p q k m s).1 (
        g,
        record {
          arrow = x.arrow;
          drawn = x.drawn;
          minutes = d;
          serves =
              record {
                leaves = x.leaves;
                takes = record { inside = omega arith; least = x.least; greatest = x.greatest };
                there = subst (λ u. way k (m - d) u ≡ true) (sym x.enters) rest;
              };
        },
      )

  pub exact_walk :
      (k s : ℕ) → reaches G.arrows p q k c s ≡ true →
      SomeAlong G (Yes p) (Yes q) (exactly c) s (walk_down G.arrows (reaches G.arrows p q) k c s)
  exact_walk k s h = walk_from k c 0 s (omega arith) h

  pub exact_finds :
      (s : ℕ) →
      Finds (λ k. reaches G.arrows p q k c s) (λ k. walk_down G.arrows (reaches G.arrows p q) k c s)
      (SomeAlong G (Yes p) (Yes q) (exactly c) s)
  exact_finds s =
      record {
        size = λ k. length_down G.arrows way k c s;
        walks = λ k h under. exact_walk k s h;
        counts = λ k shown w e. from_reaches w k c e (omega arith);
        some = λ shown w. along_some w;
      }
