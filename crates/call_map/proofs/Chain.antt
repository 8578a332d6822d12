-- The table of map check by parts: the detail's rows, the overview's and the map's.
use mathlib.Core.Path.{◌≡◌, subst}
use mathlib.Core.List.{List, [], ◌∷◌, ◌++◌}
use Prim.Native.Nat.{ℕ}
use Rattle.outcome.specs.declared.Outcome.{Outcome}
use Rattle.outcome.specs.Refusal.{Row, first}
use Rattle.outcome.proofs.First.{part_refuses, part_passes}
use Rattle.chart.specs.Bytes.{state_count}
use Rattle.chart.specs.Refusals.{chart_table}
use Rattle.loops.specs.Refusal.{loop_row, accepted_table, accepted_refusal}
use Rattle.loops.proofs.Accepted.{accepted_numbered}
use Rattle.call_map.specs.Refusals.{map_table, overview_table, map_check_table, map_refusal}
use Rattle.map.specs.Refusals.{form_row}
use Rattle.call_map.specs.Rows.{mapped_rows}

module _ (d o p : List ℕ) where
  -- ── The charts ──

  abbrev charts : List Row
  charts = accepted_table d ++ overview_table o

  pub lower_refuses : {a : Outcome} → a ≡ accepted_refusal d → (a.number ≡ 0 → ⊥) → a ≡ map_refusal d o p
  unfolding map_check_table
  lower_refuses e h = part_refuses charts (map_table d o p) (part_refuses (accepted_table d) (overview_table o) e h) h

  module _ {a b : Outcome} (e : a ≡ accepted_refusal d) (z : a.number ≡ 0) (f : b ≡ first (overview_table o)) where
    -- what the overview's rows answer, the rows of both charts answer
    both : b ≡ first charts
    both = part_passes (accepted_table d) (overview_table o) (accepted_numbered d) e z f

    pub upper_refuses : (b.number ≡ 0 → ⊥) → b ≡ map_refusal d o p
    unfolding map_check_table
    upper_refuses = part_refuses charts (map_table d o p) both

    pub map_next : {r : Outcome} → b.number ≡ 0 → r ≡ first (map_table d o p) → r ≡ map_refusal d o p
    unfolding map_check_table accepted_table chart_table loop_row
    map_next = part_passes charts (map_table d o p) tt both

  -- ── The map, for n detail states ──

  module _ {n : ℕ} {f : Outcome} (e : n ≡ state_count d) (form : f ≡ first (form_row p n ∷ [])) where
    formed : f ≡ first (form_row p (state_count d) ∷ [])
    formed = subst (λ n. f ≡ first (form_row p n ∷ [])) e form

    pub form_stops : (f.number ≡ 0 → ⊥) → f ≡ first (map_table d o p)
    unfolding map_table
    form_stops = part_refuses (form_row p (state_count d) ∷ []) (mapped_rows d o p) formed

    pub mapped_next : {r : Outcome} → f.number ≡ 0 → r ≡ first (mapped_rows d o p) → r ≡ first (map_table d o p)
    unfolding map_table
    mapped_next = part_passes (form_row p (state_count d) ∷ []) (mapped_rows d o p) tt formed
