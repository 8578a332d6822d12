-- Row 21, then rows 22 and 23.
use mathlib.Core.Path.{◌≡◌, refl, subst₂}
use Rattle.std.proofs.lemmas.Result.{err_from_is_err_and}
use mathlib.Core.List.{List, [], ◌∷◌}
use Prim.Native.Nat.{ℕ}
use Rattle.outcome.specs.declared.Outcome.{Outcome}
use Rattle.outcome.specs.Refusal.{first}
use Rattle.outcome.proofs.First.{part_passes, err_part}
use Rattle.chart.specs.Bytes.{state_count}
use Rattle.chart.proofs.Reading.{shaped}
use Rattle.map.specs.Refusals.{entry_row}
use Rattle.map.proofs.Passed.{mapped}
use Rattle.call_map.specs.declared.Sizes.{Sizes}
use Rattle.call_map.specs.Rows.{Sized}
use Rattle.call_map.proofs.mapped_refusal.Goals as goal

-- the row is the one of the charts' own counts
counted_row :
    (d o p : List ℕ) {lower upper : Sizes} {r : Outcome} → Sized d lower → Sized o upper →
    r ≡ first (entry_row p lower.states upper.states ∷ []) → r ≡ first
    (entry_row p (state_count d) (state_count o) ∷ [])
counted_row d o p {r = r} x y e = subst₂ (λ n k. r ≡ first (entry_row p n k ∷ [])) x.states y.states e

pub entry_refusal-requires : goal.entry_refusal-requires
entry_refusal-requires c = let p = c.requires in (p.2, (shaped p.0).few_states)

pub returns-in_err-entry_refusal : goal.returns-in_err-entry_refusal
returns-in_err-entry_refusal c =
    let p = err_from_is_err_and c.from_residual.result c.from_residual.ensures.1 in
    rw (p.1, p.2)
    (err_part _ _ _ (counted_row _ _ c.args.map.now c.requires.0 c.requires.1 c.in_err-entry_refusal.ensures))

pub last_refusal-requires : goal.last_refusal-requires
last_refusal-requires c =
    let p = c.requires in (p.0, p.1, mapped _ _ p.2 c.in_ok-entry_refusal.ensures refl)

pub returns : goal.returns
returns c =
    part_passes _ _ tt (counted_row _ _ c.args.map.now c.requires.0 c.requires.1 c.in_ok-entry_refusal.ensures)
    refl c.last_refusal.ensures
