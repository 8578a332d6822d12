-- Map check accepts just where its premises hold.
use mathlib.Core.Path.{◌≡◌}
use mathlib.Core.Logic.Iff
use mathlib.Core.Logic.{◌↔◌}
use mathlib.Core.List.{List, ◌++◌}
use Prim.Native.Nat.{ℕ}
use Rattle.outcome.specs.Refusal.{success}
use Rattle.outcome.specs.Met.{Unmet}
use Rattle.outcome.proofs.First.{Numbered, success_iff}
use Rattle.outcome.proofs.Unmet.{unmet_append_iff}
use Rattle.chart.specs.Refusals.{chart_table}
use Rattle.loops.specs.Refusal.{loop_row, accepted_table}
use Rattle.loops.proofs.Accepted.{unmet_iff}
use Rattle.call_map.specs.Refusals.{overview_table, map_table, map_check_table, map_refusal}
use Rattle.call_map.proofs.Under.{map_iff}
use Rattle.call_map.proofs.Overview.{overview_iff}
use Rattle.claim_demands.specs.DetailRule.{Premises, MapCheckExact}

module _ (d o p : List ℕ) where
  numbered : Numbered (map_check_table d o p) × Numbered (map_table d o p)
  unfolding map_check_table accepted_table chart_table loop_row map_table
  numbered = (tt, tt)

  -- no row of map check is met just where none is of the detail's, of the overview's and of the map's
  parts_iff :
      Unmet (map_check_table d o p) ↔ ((Unmet (accepted_table d) × Unmet (accepted_table o)) × Unmet (map_table d o p))
  unfolding map_check_table
  parts_iff =
      let x = accepted_table d in
      let y = overview_table o in
      let charts = Iff.trans (unmet_append_iff x y) (Iff.and Iff.rfl (overview_iff o)) in
      Iff.trans (unmet_append_iff (x ++ y) (map_table d o p)) (Iff.and charts Iff.rfl)

  -- Part by part: the rows of each chart ask that it be accepted, those of the map its format and that it join the two.
  accepts_iff : (map_refusal d o p ≡ success) ↔ Premises d o p
  accepts_iff =
      let map = Iff.trans (Iff.symm (success_iff (map_table d o p) numbered.1)) (map_iff d o p) in
      let parts = Iff.trans parts_iff (Iff.and (Iff.and (unmet_iff d) (unmet_iff o)) map) in
      Iff.trans (Iff.trans (success_iff (map_check_table d o p) numbered.0) parts) (
        λ w. record { detail = w.0.0; overview = w.0.1; map = w.1.0; under = w.1.1 },
        λ h. ((h.detail, h.overview), (h.map, h.under)),
      )

pub map_check_exact : MapCheckExact
map_check_exact = accepts_iff
