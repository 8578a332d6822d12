-- The overview's rows against the same rows of a chart by itself: all that depends on their carrying another entry.
use mathlib.Core.Path.{◌≡◌, ◌∙◌}
use mathlib.Core.Logic.{◌↔◌}
use mathlib.Core.List.{List}
use Prim.Native.Nat.{ℕ}
use Rattle.outcome.specs.declared.Outcome.{Outcome}
use Rattle.outcome.specs.Entry.{overview}
use Rattle.outcome.specs.Refusal.{outcome, success, first}
use Rattle.outcome.specs.Met.{Unmet}
use Rattle.outcome.proofs.First.{Numbered, zero_iff}
use Rattle.outcome.proofs.Carrying.{carrying_numbered, carrying_unmet_iff, carrying_passes, carrying_refuses}
use Rattle.loops.specs.Refusal.{accepted_table, accepted_refusal}
use Rattle.loops.proofs.Accepted.{accepted_numbered}
use Rattle.call_map.specs.Refusals.{overview_table}

module _ (o : List ℕ) where
  overview_numbered : Numbered (overview_table o)
  overview_numbered = carrying_numbered overview (accepted_table o) (accepted_numbered o)

  pub overview_iff : Unmet (overview_table o) ↔ Unmet (accepted_table o)
  overview_iff = carrying_unmet_iff overview (accepted_table o)

  -- where none of them is met, none is of the chart's own
  pub overview_passed : (first (overview_table o)).number ≡ 0 → (accepted_refusal o).number ≡ 0
  overview_passed z =
      let unmet = (zero_iff (overview_table o) overview_numbered).0 z in
      (zero_iff (accepted_table o) (accepted_numbered o)).1 (overview_iff.0 unmet)

  -- b is the outcome of the chart's own rows
  module _ {b r : Outcome} (e : b ≡ accepted_refusal o) where
    pub overview_refuses :
        (b.number ≡ 0 → ⊥) → r ≡ outcome b.number b.place overview → r ≡ first (overview_table o)
    overview_refuses h f = f ∙ carrying_refuses overview (accepted_table o) e h

    pub overview_passes : b.number ≡ 0 → r ≡ success → r ≡ first (overview_table o)
    overview_passes z f = f ∙ carrying_passes overview (accepted_table o) (accepted_numbered o) e z
