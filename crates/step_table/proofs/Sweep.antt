-- The row after another, raised arrow by arrow.
use mathlib.Core.Path.{◌≡◌, refl, sym, ap, ap₂, subst, ◌∙◌}
use mathlib.Core.Logic.{◌⊎◌, inl, inr, by_cases}
use mathlib.Core.Bool.{cond}
use mathlib.Core.List.{List}
use Prim.Native.Nat.{ℕ, suc, ◌+◌, ◌≤◌, ◌<◌, max}
use native.Mathlib.Omega.{arith}
use native.Mathlib.Decide.{ℕ_discrete}
use lib.ListN.{length, length-set}
use lib.Seq.{get_or-set_same, get_or-set_other}
use borrow.Author.Tests.{eq-eqb, ne_eqb}
use Rattle.base.specs.Tabulate.{tabulate}
use Rattle.base.specs.Entries.{Entries}
use Rattle.tctl.specs.Chart.{Arrow}
use Rattle.model.specs.Engine.{num}
use Rattle.chart.specs.Bytes.{arrow_count, arrow_words, arrow_of, chart_of}
use Rattle.step_numbers.specs.declared.Measure.{Measure}
use Rattle.step_numbers.specs.Stored.{weight_of}
use Rattle.shown.specs.Steps.{best}
use Rattle.shown.proofs.Best.{best_last}
use Rattle.step_table.specs.Table.{sums_by, row_relaxed, Relaxed, RowLow}

-- the row that arrows raise by stays
pub low_still :
    {n at : ℕ} {f : ℕ → ℕ} {old table : List ℕ} → RowLow n at old → Entries (at + n) n f old table →
    RowLow n at table
low_still {at = at} low w =
    record {
      room = omega (arith, low.room, w.size);
      low = λ e l. omega (arith, low.low e l, w.elsewhere (at + e) (inl (omega arith)));
    }

-- and when an arrow was tried, which raises a number of the row after
pub low_relaxed :
    {chart weights : List ℕ} {n at i : ℕ} {table new : List ℕ} → RowLow n at table →
    Relaxed chart n i at weights table new → RowLow n at new
low_relaxed {chart} {weights} {n} {at} {i} {table} {new} low r =
    record {
      room = omega (arith, low.room, size);
      low = λ e l. omega (arith, low.low e l, stays e l);
    }
  where
    to : ℕ
    to = at + n + (arrow_words chart i).start

    size : length new ≡ length table
    size = ap length r.is ∙ length-set table to _

    stays : (e : ℕ) → e < n → num new (at + e) ≡ num table (at + e)
    stays e l = ap (λ l. num l (at + e)) r.is ∙ get_or-set_other table to (at + e) _ 0 (λ h. omega arith)

module _ (measure : Measure) (chart : List ℕ) (at n : ℕ) (old : List ℕ) where
  abbrev pub arrow : ℕ → Arrow
  arrow i = arrow_of (arrow_words chart i)

  -- what arrow i makes for s
  abbrev sums : ℕ → Arrow → ℕ
  sums s = sums_by measure (λ e. num old (at + e)) s

  -- what the first i arrows raise the number of s to
  abbrev pub raised_by : ℕ → ℕ → ℕ
  raised_by i s = max (num old (at + n + s)) (best (sums s) (tabulate i arrow))

  pub raised_none : Entries (at + n) n (raised_by 0) old old
  unfolding best tabulate
  raised_none = record { size = refl; here = λ s l. omega arith; elsewhere = λ j h. refl }

  -- the arrow's start is raised, and the others are as they were
  pub raised_more :
      (i : ℕ) {table new : List ℕ} → Entries (at + n) n (raised_by i) old table → (arrow i).start < n → (arrow i).end < n →
      at + n + n ≤ length old → {weights : List ℕ} → num weights i ≡ weight_of measure (arrow i) → Relaxed chart n i at weights table new → Entries (at + n) n (raised_by (i + 1)) old new
  raised_more i {table} {new} w start end room {weights} weighs r =
      record {
        size = ap length r.is ∙ length-set table to v ∙ w.size;
        here = λ s l. by_cases (ℕ_discrete a.start s) (at_start s l) (at_other s l);
        elsewhere = λ j h. ap (λ l. num l j) r.is ∙ get_or-set_other table to j v 0 (apart j h) ∙ w.elsewhere j h;
      }
    where
      a : Arrow
      a = arrow i

      to : ℕ
      to = at + n + a.start

      v : ℕ
      v = max (num table to) (num table (at + a.end) + num weights i)

      apart : (j : ℕ) → (j < at + n) ⊎ (at + n + n ≤ j) → ¬ (j ≡ to)
      apart j (inl h) e = omega arith
      apart j (inr h) e = omega arith

      more : (s : ℕ) → raised_by (i + 1) s ≡ max (raised_by i s) (sums s a)
      more s = let e : i + 1 ≡ suc i = omega arith in rw e (omega (arith, best_last (sums s) i arrow))

      raised : num new to ≡ raised_by (i + 1) a.start
      raised =
          let f = w.here a.start start in
          let g = w.elsewhere (at + a.end) (inl (omega (arith, end))) in
          let own = ap (λ b. cond b (num old (at + a.end) + weight_of measure a) 0) (eq-eqb a.start a.start refl) in
          ap (λ l. num l to) r.is ∙
          get_or-set_same table to v 0 (omega (arith, start, room, w.size)) ∙
          ap₂ max f (ap₂ (λ (x y : ℕ). x + y) g weighs ∙ sym own) ∙
          sym (more a.start)

      at_start : (s : ℕ) → s < n → a.start ≡ s → num new (at + n + s) ≡ raised_by (i + 1) s
      at_start s l e = subst (λ s. num new (at + n + s) ≡ raised_by (i + 1) s) e raised

      at_other : (s : ℕ) → s < n → ¬ (a.start ≡ s) → num new (at + n + s) ≡ raised_by (i + 1) s
      at_other s l e =
          let own = ap {B = ℕ} (λ b. cond b (num old (at + a.end) + weight_of measure a) 0) (ne_eqb a.start s e) in
          let same : raised_by i s ≡ max (raised_by i s) (sums s a) = omega (arith, own) in
          ap (λ l. num l (at + n + s)) r.is ∙
          get_or-set_other table to (at + n + s) v 0 (λ k. e (omega arith)) ∙
          w.here s l ∙
          same ∙
          sym (more s)

  pub raised_all : (s : ℕ) → raised_by (arrow_count chart) s ≡ row_relaxed measure chart at n old s
  unfolding chart_of
  raised_all s = refl
