-- The row of one step more: zeros, raised by the arrows, and settled.
use mathlib.Core.Path.{◌≡◌, ap}
use mathlib.Core.Logic.{inl}
use mathlib.Core.Bool.{cond}
use mathlib.Core.List.{List}
use Prim.Native.Nat.{ℕ, ◌+◌, ◌<◌}
use native.Mathlib.Omega.{arith}
use lib.Dec.{eqb}
use Rattle.base.specs.Entries.{Entries}
use Rattle.base.proofs.Entries.{entries_as, entries_again}
use Rattle.tctl.specs.Chart.{states}
use Rattle.model.specs.Engine.{num}
use Rattle.model.specs.Marks.{flag}
use Rattle.chart.specs.Bytes.{chart_of}
use Rattle.chart.specs.Shape.{Passed}
use Rattle.chart.proofs.Reading.{has_states, drawn}
use Rattle.shown.specs.Steps.{best}
use Rattle.shown.proofs.Best.{best_same}
use Rattle.step_numbers.specs.declared.Measure.{Measure}
use Rattle.step_numbers.specs.declared.Target.{Target}
use Rattle.step_numbers.specs.Target.{go_of}
use Rattle.step_numbers.specs.Stored.{weight_of, settled_of}
use Rattle.step_table.specs.Table.{sums_by, row_relaxed, row_settled, row_next}

-- rows that agree on the states make the same sums, for every arrow ends at a state
sums_same :
    {chart : List ℕ} {n m : ℕ} → Passed chart n m → (measure : Measure) (row other : ℕ → ℕ) →
    ((e : ℕ) → e < n → row e ≡ other e) → (s : ℕ) →
    best (sums_by measure row s) (chart_of chart).arrows ≡ best (sums_by measure other s) (chart_of chart).arrows
sums_same {chart} passed measure row other same s =
    best_same (sums_by measure row s) (sums_by measure other s) (chart_of chart).arrows
    (λ a member.
    let below : a.end < states (chart_of chart) = (drawn passed).ends a member in
    ap (λ v. cond (eqb a.start s) (v + weight_of measure a) 0)
    (same a.end (omega (arith, below, has_states passed))))

module _ (target : Target) {chart : List ℕ} {n m : ℕ} (at : ℕ) (p q : List ℕ) {old none up new : List ℕ} where
  pub next_row :
      Passed chart n m → Entries (at + n) n (λ s. 0) old none →
      Entries (at + n) n (row_relaxed target.measure chart at n none) none up →
      Entries (at + n) n (row_settled target p q (at + n) up) up new →
      Entries (at + n) n (row_next target chart p q (λ e. num old (at + e))) old new
  next_row passed cleared raised settled =
      entries_again (entries_again cleared raised) (entries_as same settled)
    where
      same :
          (s : ℕ) → s < n →
          row_settled target p q (at + n) up s ≡ row_next target chart p q (λ e. num old (at + e)) s
      same s l =
          let sums =
          sums_same passed target.measure (λ e. num none (at + e)) (λ e. num old (at + e))
          (λ e k. cleared.elsewhere (at + e) (inl (omega arith))) s in
          ap (λ v. cond (go_of target.all (flag p s) (flag q s)) (settled_of target.measure v) 0)
          (omega (arith, raised.here s l, cleared.here s l, sums))
