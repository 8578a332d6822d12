-- The table of an accepted chart by parts: checks 1 to 9, then 19.
use mathlib.Core.Path.{◌≡◌}
use mathlib.Core.List.{List, [], ◌∷◌}
use Prim.Native.Nat.{ℕ, ◌≤◌}
use lib.ListN.{length}
use Rattle.outcome.specs.declared.Outcome.{Outcome}
use Rattle.outcome.specs.declared.Refusal.{Refusal}
use Rattle.outcome.specs.Answer.{told}
use Rattle.outcome.specs.Refusal.{first}
use Rattle.outcome.proofs.First.{part_zero, part_passes, err_part}
use Rattle.chart.specs.Bytes.{state_count, arrow_count}
use Rattle.chart.specs.Refusals.{chart_table, chart_refusal}
use Rattle.chart.specs.Shape.{Passed}
use Rattle.chart.proofs.WellFormed.{well_formed}
use Rattle.loops.specs.Refusal.{loop_row, accepted_table, accepted_refusal}

module _ (s : List ℕ) where
  pub chart_refuses : (r : Refusal) → told r ≡ chart_refusal s → told r ≡ accepted_refusal s
  unfolding accepted_table
  chart_refuses = err_part (chart_table s) (loop_row s ∷ [])

  module _ {r : Outcome} (e : r ≡ chart_refusal s) (z : r.number ≡ 0) where
    pub chart_whole : 9 ≤ length s
    chart_whole = (well_formed s (part_zero (chart_table s) e z)).head.enough

    pub chart_small : state_count s ≤ 256
    chart_small = (well_formed s (part_zero (chart_table s) e z)).shape.few_states

    pub chart_counted : {n m : ℕ} → n ≡ state_count s → m ≡ arrow_count s → Passed s n m
    chart_counted a b = record { states = a; arrows = b; unrefused = part_zero (chart_table s) e z }

    pub loop_next : {x : Outcome} → x ≡ first (loop_row s ∷ []) → x ≡ accepted_refusal s
    unfolding accepted_table chart_table
    loop_next = part_passes (chart_table s) (loop_row s ∷ []) tt e z
