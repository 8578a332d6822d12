-- "A chart is accepted exactly if it passes checks 1 to 9 and 19": the table's success is the format and the meaning.
use mathlib.Core.Path.{◌≡◌, refl, ap}
use mathlib.Core.Logic.Iff
use mathlib.Core.Logic.{◌↔◌}
use mathlib.Core.List.{List, [], ◌∷◌}
use mathlib.Core.Bool.{false}
use mathlib.Core.Option.{none}
use Prim.Native.Nat.{ℕ, ◌<◌}
use native.Mathlib.Omega.{arith}
use Rattle.tctl.specs.Chart.{states}
use Rattle.tctl.specs.Accepted.{Accepted, ReachesTimedLoop}
use Rattle.tctl.proofs.Drawn.{Drawn, accepted_drawn}
use Rattle.model.specs.TimedLoop.{no_timed_loop}
use Rattle.model.proofs.TimedLoop.{no_timed_loop_iff}
use Rattle.outcome.specs.declared.Outcome.{Outcome}
use Rattle.outcome.specs.Refusal.{success, lowest}
use Rattle.outcome.specs.Met.{Unmet, end}
use Rattle.outcome.proofs.First.{Numbered, zero_iff, success_iff}
use Rattle.outcome.proofs.Unmet.{unmet_more, unmet_row, unmet_append_iff}
use Rattle.outcome.proofs.Lowest.{none_below, lowest_none}
use Rattle.chart.specs.Bytes.{state_count, arrow_count, chart_of}
use Rattle.chart.specs.Shape.{Shape, Passed}
use Rattle.chart.specs.Refusals.{chart_table, chart_refusal}
use Rattle.chart.proofs.WellFormed.{WellFormed, well_formed, chart_left}
use Rattle.chart.proofs.Chart.{states_of}
use Rattle.chart.proofs.Converse.{formed_unmet, accepted_formed}
use Rattle.chart.proofs.Reading.{drawn}
use Rattle.loops.specs.Refusal.{loop_row, accepted_table, accepted_refusal}
use Rattle.loops.specs.Accepted.{ChartFormat, AcceptedChart}

module _ (s : List ℕ) where
  pub accepted_numbered : Numbered (accepted_table s)
  unfolding accepted_table chart_table loop_row
  accepted_numbered = tt

  -- no row is met just where none of rows 1 to 9 is, and row 19 is not
  parts_iff : Unmet (accepted_table s) ↔ (Unmet (chart_table s) × Unmet (loop_row s ∷ []))
  unfolding accepted_table
  parts_iff = unmet_append_iff (chart_table s) (loop_row s ∷ [])

  -- ── From the table ──

  module _ (z : (accepted_refusal s).number ≡ 0) where
    parts : Unmet (chart_table s) × Unmet (loop_row s ∷ [])
    parts = parts_iff.0 ((zero_iff (accepted_table s) accepted_numbered).0 z)

    pub chart_passed : (chart_refusal s).number ≡ 0
    unfolding chart_table
    chart_passed = (zero_iff (chart_table s) tt).1 parts.0

    passed : Passed s (state_count s) (arrow_count s)
    passed = record { states = refl; arrows = refl; unrefused = chart_passed }

    ok : WellFormed s
    ok = well_formed s chart_passed

    dr : Drawn (chart_of s)
    dr = drawn passed

    none_stranded : lowest (no_timed_loop (chart_of s)) (state_count s) ≡ none
    unfolding loop_row
    none_stranded = (unmet_row parts.1).0

    timed : (v : ℕ) → v < states (chart_of s) → ReachesTimedLoop (chart_of s) v
    timed v l =
        let low : v < state_count s = omega (arith, states_of s) in
        (no_timed_loop_iff dr v).0 (none_below (no_timed_loop (chart_of s)) (state_count s) none_stranded v low)

    -- rows 7 to 9 and 19 are the premises of the theory
    pub accepted_only : Accepted (chart_of s)
    accepted_only =
        record {
          starts = dr.starts;
          ends = dr.ends;
          slots = dr.slots;
          leaves = chart_left s ok;
          timed = timed;
        }

    format : ChartFormat s
    format =
        let k = ok.shape in
        record {
          head = ok.head;
          some_states = k.some_states;
          few_states = k.few_states;
          some_arrows = k.some_arrows;
          few_arrows = k.few_arrows;
          whole = k.whole;
          slots = ok.slots;
        }

  -- ── Back to the table ──

  format_shape : ChartFormat s → Shape s (state_count s) (arrow_count s)
  format_shape f =
      record {
        states = refl;
        arrows = refl;
        some_states = f.some_states;
        few_states = f.few_states;
        some_arrows = f.some_arrows;
        few_arrows = f.few_arrows;
        whole = f.whole;
      }

  -- row 19's test decides whether a state reaches such a loop, and each does
  loop_unmet : Accepted (chart_of s) → Unmet (loop_row s ∷ [])
  unfolding loop_row
  loop_unmet acc =
      let G = chart_of s in
      let reach : (v : ℕ) → v < state_count s → no_timed_loop G v ≡ false =
      λ v l. (no_timed_loop_iff (accepted_drawn acc) v).1 (acc.timed v (omega (arith, states_of s))) in
      unmet_more (lowest_none (no_timed_loop G) (state_count s) reach) end

  -- rows 1 to 9 are passed, and the rest is the meaning
  pub accepted_by_meaning : (chart_refusal s).number ≡ 0 → Accepted (chart_of s) → accepted_refusal s ≡ success
  unfolding chart_table
  accepted_by_meaning z acc =
      (success_iff (accepted_table s) accepted_numbered).1
      (parts_iff.1 ((zero_iff (chart_table s) tt).0 z, loop_unmet acc))

  accepted_unmet : AcceptedChart s → Unmet (accepted_table s)
  accepted_unmet acc =
      let f = acc.format in
      let ok = accepted_formed s acc.meaning f.head (format_shape f) f.slots in
      parts_iff.1 (formed_unmet s ok, loop_unmet acc.meaning)

  -- Each row is false just where its part of the format, or of the meaning, is true.
  pub accepted_iff : (accepted_refusal s ≡ success) ↔ AcceptedChart s
  accepted_iff = (there, λ acc. (success_iff (accepted_table s) accepted_numbered).1 (accepted_unmet acc))
    where
      there : accepted_refusal s ≡ success → AcceptedChart s
      there e =
          let z = ap (λ (r : Outcome). r.number) e in
          record { format = format z; meaning = accepted_only z }

  -- the same of the rows
  pub unmet_iff : Unmet (accepted_table s) ↔ AcceptedChart s
  unmet_iff = Iff.trans (Iff.symm (success_iff (accepted_table s) accepted_numbered)) accepted_iff
