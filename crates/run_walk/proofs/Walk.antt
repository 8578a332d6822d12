-- The walk down the lent table is the walk down the table by steps, where that has a measure.
use mathlib.Core.Path.{◌≡◌, refl, sym, ap, ap₂, ◌∙◌}
use mathlib.Core.Bool.{Bool, true, false, ◌&&◌}
use mathlib.Core.List.{List, [], ◌∷◌}
use Prim.Native.Nat.{ℕ, zero, suc, ◌+◌, ◌*◌, ◌≤◌, ◌<◌}
use native.Mathlib.Omega.{arith}
use native.Mathlib.Nat.{suc-mul}
use lib.ListN.{length}
use lib.Dec.{eqb}
use borrow.Author.Tests.{eqb-true}
use Rattle.base.proofs.Truth.{and_iff}
use Rattle.tctl.specs.Chart.{Arrow}
use Rattle.model.specs.Engine.{num}
use Rattle.chart.specs.declared.ArrowWords.{ArrowWords}
use Rattle.chart.specs.Bytes.{arrow_count, arrow_words, arrow_of, chart_of}
use Rattle.chart.specs.Shape.{Passed}
use Rattle.chart.proofs.Chart.{arrow_mem, arrow_of_lem}
use Rattle.chart.proofs.Reading.{arrow_ends}
use Rattle.shown.specs.Shown.{place}
use Rattle.shown.specs.Steps.{Quest, by_step, first_arrow, is_best, walk}
use Rattle.shown.proofs.Best.{first_lowest}
use Rattle.shown.proofs.Table.{table_found}
use Rattle.step_numbers.specs.declared.Measure.{Measure}
use Rattle.step_numbers.specs.declared.Measure.TheVariants.{Least, Greatest}
use Rattle.step_numbers.specs.declared.Target.{Target}
use Rattle.step_numbers.specs.Target.{worth_of, pick_of, quest_for, Fair}
use Rattle.step_numbers.specs.Slots.{Slots}
use Rattle.step_numbers.specs.Stored.{stored_of, weight_of, settled_of}
use Rattle.step_numbers.proofs.Storing.{stored_eqb, settled_sum}
use Rattle.step_numbers.proofs.Slots.{arrow_slots}
use Rattle.step_table.specs.Table.{Tabled}
use Rattle.step_table.proofs.Bounds.{step_low}
use Rattle.run_walk.specs.Walk.{is_tight, tight_arrow, walk_on}
use Rattle.run_walk.proofs.Tight.{tight_least}

pub walk_on_length :
    (measure : Measure) (chart : List ℕ) (n : ℕ) (table : List ℕ) (k s : ℕ) →
    length (walk_on measure chart n table k s) ≡ suc k
unfolding walk_on
walk_on_length measure chart n table zero s = refl
walk_on_length measure chart n table (suc k) s = ap suc (walk_on_length measure chart n table k _)

-- the walk's first position, by the arrow that is read
pub walk_first :
    (measure : Measure) (chart : List ℕ) (n : ℕ) (table : List ℕ) (s : ℕ) {left k i d : ℕ} {a : ArrowWords} →
    left ≡ suc k → i ≡ tight_arrow measure chart n table (k * n) s → a ≡ arrow_words chart i →
    d ≡ pick_of measure (arrow_of a) →
    walk_on measure chart n table left s ≡ place s d ∷ walk_on measure chart n table k a.end
unfolding walk_on
walk_first measure chart n table s {left} {k} {i} {d} {a} e f g t =
    ap (λ x. walk_on measure chart n table x s) e ∙
    ap (λ w. place s (pick_of measure (arrow_of w)) ∷ walk_on measure chart n table k w.end)
    (sym (g ∙ ap (arrow_words chart) f)) ∙
    ap (λ d. place s d ∷ walk_on measure chart n table k a.end) (sym t)

pub walk_last :
    (measure : Measure) (chart : List ℕ) (n : ℕ) (table : List ℕ) (s : ℕ) {left : ℕ} → left ≡ 0 →
    walk_on measure chart n table left s ≡ place s 0 ∷ []
unfolding walk_on
walk_last measure chart n table s e = ap (λ x. walk_on measure chart n table x s) e

-- from 0 nothing is made
worth_some : (measure : Measure) (a : Arrow) (v : ℕ) → 1 ≤ worth_of measure a v → 1 ≤ v
worth_some Least a v h = omega arith
worth_some (Greatest cap) a zero h = absurd (let z : ⊥ = omega arith in z)
worth_some (Greatest cap) a (suc v) h = omega arith

module _ (target : Target) (p q : ℕ → Bool) {chart : List ℕ} {n m : ℕ} (ok : Passed chart n m) where
  abbrev measure : Measure
  measure = target.measure

  abbrev z : Quest
  z = quest_for target p q

  abbrev arrows : List Arrow
  arrows = (chart_of chart).arrows

  abbrev arrow_at : ℕ → Arrow
  arrow_at i = arrow_of (arrow_words chart i)

  abbrev T : ℕ → ℕ → ℕ
  T = by_step arrows z

  module _ (fair : Fair target) (slots : Slots chart) (table : List ℕ) where
    module _ (k s : ℕ) (rows : Tabled (chart_of chart) measure z n (suc k) table) (l : s < n) where
      -- The tests are the same: the sum stands for the stored worth of the arrow, and stored numbers are the same just
      -- if the numbers are.
      tight_best :
          (i : ℕ) → i < arrow_count chart → is_tight measure chart n table (k * n) s i ≡ is_best arrows z k s (arrow_at i)
      tight_best i h =
          let a = arrow_at i in
          let v = T k a.end in
          let small = arrow_slots chart slots a (arrow_mem chart i h) in
          let here : num table (k * n + n + s) ≡ stored_of measure (T (suc k) s) =
          ap (λ x. num table (x + s)) (sym (suc-mul k n)) ∙ rows (suc k) s (omega arith) l in
          let there : num table (k * n + a.end) ≡ stored_of measure v =
          rows k a.end (omega arith) (arrow_ends ok i (omega (arith, ok.arrows))).1 in
          let made =
          ap (λ x. settled_of measure (x + weight_of measure a)) there ∙
          settled_sum fair.capped a small.0 small.1 v (step_low fair p q arrows k a.end) in
          ap (λ b. eqb a.start s && b) (ap₂ eqb made here ∙ stored_eqb measure (worth_of measure a v) (T (suc k) s))

      -- The number is above 0, so it is what some arrow makes, which passes. So the arrow that is taken is the lowest
      -- that passes, and that is the first best one. What it leads to is above 0 again, since from 0 nothing is made.
      taken :
          1 ≤ T (suc k) s → let a = arrow_at (tight_arrow measure chart n table (k * n) s) in
          (a ≡ first_arrow (is_best arrows z k s) arrows) × (1 ≤ T k a.end) × (a.end < n)
      unfolding chart_of
      taken h =
          let found = table_found arrows z k s h in
          let i = arrow_of_lem chart found.1 found.2 in
          let passes : is_tight measure chart n table (k * n) s i.0 ≡ true =
          tight_best i.0 i.1 ∙ ap (is_best arrows z k s) (sym i.2) ∙ found.3 in
          let least = tight_least measure chart n table (k * n) s i.0 i.1 passes in
          let j = tight_arrow measure chart n table (k * n) s in
          let a = arrow_at j in
          let best = sym (tight_best j least.inside) ∙ least.offends in
          let under : (v : ℕ) → v < j → is_best arrows z k s (arrow_at v) ≡ false =
          λ v l. sym (tight_best v (omega (arith, l, least.inside))) ∙ least.under v l in
          let v = T k a.end in
          let makes = eqb-true (worth_of measure a v) (T (suc k) s) ((and_iff (eqb a.start s) _).0 best).1 in (
            sym (first_lowest (is_best arrows z k s) (arrow_count chart) j arrow_at least.inside best under),
            worth_some measure a v (omega (arith, makes, h)),
            (arrow_ends ok j (omega (arith, ok.arrows, least.inside))).1,
          )

    -- By induction on k: the first step is by the same arrow, and what it leads to is above 0 again.
    pub walk_on_lem :
        (k s : ℕ) → Tabled (chart_of chart) measure z n k table → 1 ≤ T k s → s < n →
        walk_on measure chart n table k s ≡ walk arrows z k s
    unfolding walk_on walk
    walk_on_lem zero s rows h l = refl
    walk_on_lem (suc k) s rows h l =
        let t = taken k s rows l h in
        let a = arrow_at (tight_arrow measure chart n table (k * n) s) in
        let onward = walk_on_lem k a.end (λ j v i. rows j v (omega arith)) t.1 t.2 in
        ap (λ run. place s (pick_of measure a) ∷ run) onward ∙
        ap (λ x. place s (z.pick x) ∷ walk arrows z k x.end) t.0
