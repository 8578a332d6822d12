-- The same rows with another entry: the same row is met.
use mathlib.Core.Path.{◌≡◌, sym, ap}
use mathlib.Core.Logic.{◌↔◌}
use mathlib.Core.List.{List, [], ◌∷◌}
use mathlib.Core.Option.{none, some}
use Prim.Native.Nat.{ℕ, zero, suc}
use Rattle.outcome.specs.declared.Outcome.{Outcome}
use Rattle.outcome.specs.Refusal.{Row, row, outcome, success, first, carrying}
use Rattle.outcome.specs.Met.{Unmet, end, passed}
use Rattle.outcome.proofs.First.{Numbered, zero_iff, success_iff, part_zero}
use Rattle.outcome.proofs.Unmet.{unmet_more, unmet_row}

module _ (e : ℕ) where
  pub carrying_numbered : (rows : List Row) → Numbered rows → Numbered (carrying e rows)
  carrying_numbered [] h = tt
  carrying_numbered (row own zero p ∷ rows) h = absurd h
  carrying_numbered (row own (suc n) p ∷ rows) h = carrying_numbered rows h

  unmet_carrying : {rows : List Row} → Unmet rows → Unmet (carrying e rows)
  unmet_carrying end = end
  unmet_carrying (passed own n u) = passed e n (unmet_carrying u)

  unmet_own : (rows : List Row) → Unmet (carrying e rows) → Unmet rows
  unmet_own [] u = end
  unmet_own (row own n p ∷ rows) u =
      let h = unmet_row u in
      unmet_more h.0 (unmet_own rows h.1)

  -- the places stay, so no row is met just where none was
  pub carrying_unmet_iff : (rows : List Row) → Unmet (carrying e rows) ↔ Unmet rows
  carrying_unmet_iff rows = (unmet_own rows, λ u. unmet_carrying u)

  -- r is the outcome of the rows as they were: if it is no refusal, none is met
  pub carrying_passes :
      (rows : List Row) {r : Outcome} → Numbered rows → r ≡ first rows → r.number ≡ 0 →
      success ≡ first (carrying e rows)
  carrying_passes rows h same z =
      let u = unmet_carrying ((zero_iff rows h).0 (part_zero rows same z)) in
      sym ((success_iff (carrying e rows) (carrying_numbered rows h)).1 u)

  -- if it is a refusal, the same row is met
  pub carrying_refuses :
      (rows : List Row) {r : Outcome} → r ≡ first rows → (r.number ≡ 0 → ⊥) →
      outcome r.number r.place e ≡ first (carrying e rows)
  unfolding first
  carrying_refuses [] same h = absurd (h (ap (λ (o : Outcome). o.number) same))
  carrying_refuses (row own n none ∷ rows) same h = carrying_refuses rows same h
  carrying_refuses (row own n (some p) ∷ rows) same h = ap (λ (o : Outcome). outcome o.number o.place e) same
