-- What is counted minute by minute is the row of the until.
use mathlib.Core.Path.{◌≡◌, refl, sym, ap, subst, ◌∙◌}
use mathlib.Core.Logic.{by_cases}
use mathlib.Core.Bool.{Bool, true, false, cond}
use mathlib.Core.List.{List}
use Prim.Native.Nat.{ℕ, ◌≤◌, ◌<◌}
use native.Mathlib.Decide.{ℕ_discrete}
use native.Mathlib.Omega.{arith}
use lib.Dec.{eqb}
use borrow.Author.Tests.{eqb-true, eq-eqb, ne_eqb}
use Rattle.base.proofs.Tabulate.{get_d_tabulate}
use Rattle.tctl.specs.Chart.{Chart, Arrow, states}
use Rattle.tctl.specs.Formula.{Bound, exactly}
use Rattle.tctl.specs.Accepted.{Accepted}
use Rattle.tctl.proofs.Drawn.{accepted_drawn}
use Rattle.tctl.proofs.Lively.{lively}
use Rattle.model.specs.Decide.{ask, some_row, all_row}
use Rattle.chart.specs.Bytes.{chart_of}
use Rattle.chart.specs.Shape.{Passed}
use Rattle.chart.proofs.Reading.{has_states}
use Rattle.minutes.specs.Untils.{counted}
use Rattle.model.proofs.Agree.{some_agree, all_agree}
use Rattle.rule.specs.declared.NodeWords.{NodeWords}
use Rattle.rule.specs.Formula.{bound_of}
use Rattle.nodes.specs.Until.{until_met, by_minutes, UntilRead}
use Rattle.nodes.proofs.Bounds.{is_exact_lem}

-- the row of an exact bound is the one that is counted
exact_counted :
    (op c : ℕ) → 5 ≤ op → op ≤ 6 → (arrows : List Arrow) (n : ℕ) (p q : ℕ → Bool) (s : ℕ) → s < n →
    counted (eqb op 6) (exactly c) arrows n p q s ≡ until_met op (exactly c) arrows n p q s
unfolding some_row all_row
exact_counted op c low high arrows n p q s l =
    by_cases (ℕ_discrete op 5)
    (λ e.
    rw (ne_eqb op 6 (λ i. let z : ⊥ = omega arith in z), eq-eqb op 5 e)
    (sym (get_d_tabulate n (counted false (exactly c) arrows n p q) false s l)))
    (λ e.
    rw (eq-eqb op 6 (omega arith), ne_eqb op 5 e)
    (sym (get_d_tabulate n (counted true (exactly c) arrows n p q) false s l)))

module _ {chart : List ℕ} {n m : ℕ} (passed : Passed chart n m) (acc : Accepted (chart_of chart)) (p q : ℕ → Bool) where
  abbrev G : Chart
  G = chart_of chart

  -- of operation 5 an E-until, of 6 an A-until
  counted_met :
      (op : ℕ) → 5 ≤ op → op ≤ 6 → (b : Bound) (s : ℕ) → s < n →
      counted (eqb op 6) b G.arrows n p q s ≡ until_met op b G.arrows n p q s
  counted_met op low high b s l =
      subst (λ k. s < k → counted (eqb op 6) b G.arrows k p q s ≡ until_met op b G.arrows k p q s)
      (has_states passed) met l
    where
      some : List Bool
      some = some_row G.arrows (states G) b p q

      every : List Bool
      every = all_row G.arrows (states G) b p q

      met : s < states G → counted (eqb op 6) b G.arrows (states G) p q s ≡ until_met op b G.arrows (states G) p q s
      met h =
          by_cases (ℕ_discrete op 5)
          (λ e.
          let six : eqb op 6 ≡ false = ne_eqb op 6 (λ i. let z : ⊥ = omega arith in z) in
          ap (λ all. counted all b G.arrows (states G) p q s) six ∙
          some_agree (accepted_drawn acc) p q b s h ∙
          sym (ap (λ five. ask (cond five some every) s) (eq-eqb op 5 e)))
          (λ e.
          let six : eqb op 6 ≡ true = eq-eqb op 6 (omega arith) in
          ap (λ all. counted all b G.arrows (states G) p q s) six ∙
          all_agree (accepted_drawn acc) (lively acc) p q b s h ∙
          sym (ap (λ five. ask (cond five some every) s) (ne_eqb op 5 e)))

-- where every until is counted as the engines agree, else for its exact bound
pub by_minutes_met :
    {counting : Bool} {chart : List ℕ} {n m t : ℕ} → Passed chart n m → (counting ≡ true → Accepted (chart_of chart)) →
    (w : NodeWords) → UntilRead counting t w → by_minutes counting w ≡ true → (p q : ℕ → Bool) (s : ℕ) → s < n →
    let b = bound_of w.kind w.c in
    counted (eqb w.operation 6) b (chart_of chart).arrows n p q s ≡
    until_met w.operation b (chart_of chart).arrows n p q s
by_minutes_met {counting = true} passed acc w u e p q s l =
    counted_met passed (acc refl) p q w.operation u.least u.greatest (bound_of w.kind w.c) s l
by_minutes_met {counting = false} {chart} {n} passed acc w u e p q s l =
    rw (is_exact_lem w.c (eqb-true w.kind 3 e))
    (exact_counted w.operation w.c u.least u.greatest (chart_of chart).arrows n p q s l)
