-- Where the until with no bound holds nowhere, it holds nowhere with "at least c" either.
use mathlib.Core.Path.{◌≡◌, refl, sym, ap, subst, ◌∙◌}
use mathlib.Core.Logic.{⊎_elim}
use mathlib.Core.Bool.{Bool, true, false, ◌&&◌, ◌||◌, false≢true}
use mathlib.Core.Bool.{not as neg}
use mathlib.Core.List.{List}
use Prim.Native.Nat.{ℕ, zero, suc, ◌≤◌, ◌<◌}
use native.Mathlib.Omega.{arith}
use lib.Dec.{eqb, leb}
use borrow.Author.Tests.{eq-eqb, lt-leb}
use Rattle.base.proofs.Truth.{true_or_false}
use Rattle.tctl.specs.Chart.{Arrow}
use Rattle.tctl.specs.Formula.{at_least}
use Rattle.tctl.specs.Path.{stop}
use Rattle.base.proofs.Tabulate.{get_d_tabulate}
use Rattle.model.specs.Engine.{num, least}
use Rattle.model.specs.Decide.{ask, plain_row, leads_to, sure_row, all_row}
use Rattle.base.proofs.Every.{every_true}
use Rattle.model.proofs.Least.{least_le}
use Rattle.base.proofs.Same.{Same}
use Rattle.chart.specs.Bytes.{chart_of}
use Rattle.chart.specs.Shape.{Passed}
use Rattle.chart.proofs.WellFormed.{well_formed, chart_left}
use Rattle.chart.proofs.Reading.{drawn, has_states}

neither : (b c : Bool) → c ≡ false → (b && c) ≡ false
neither true c e = e
neither false c e = refl

module _
    {chart : List ℕ}
    {n m : ℕ}
    (passed : Passed chart n m)
    (p q : ℕ → Bool)
    (none : Same n (ask (plain_row (chart_of chart).arrows n p q)) (λ s. false)) where
  abbrev arrows : List Arrow
  arrows = (chart_of chart).arrows

  abbrev plain : ℕ → Bool
  plain = ask (plain_row arrows n p q)

  -- an arrow leaves each state, and leads to where the until does not hold
  unsure : (s : ℕ) → s < n → ask (sure_row arrows n p q) s ≡ false
  unfolding sure_row
  unsure s l =
      get_d_tabulate n (λ s. p s && leads_to arrows plain s) false s l ∙
      neither (p s) (leads_to arrows plain s)
      (⊎_elim
      (λ e.
      let w = chart_left chart (well_formed chart passed.unrefused) s (omega (arith, has_states passed)) in
      let end : w.0.end < n = omega (arith, (drawn passed).ends w.0 w.1, has_states passed) in
      let well = every_true (λ a. neg (eqb a.start s) || plain a.end) arrows e w.1 in
      absurd
      (false≢true
      (sym (none w.0.end end) ∙
      subst (λ b. (neg b || plain w.0.end) ≡ true) (eq-eqb w.0.start s w.2) well)))
      (λ e. e) (true_or_false (leads_to arrows plain s)))

  -- each state is itself where no run is sure, 0 minutes away
  pub none_at_least : (c : ℕ) → 0 < c → Same n plain (ask (all_row arrows n (at_least c) p q))
  unfolding all_row
  none_at_least zero h s l = absurd (let z : ⊥ = omega arith in z)
  none_at_least (suc c) h s l =
      none s l ∙
      sym
      (get_d_tabulate n (λ s. leb (suc c) (num t s)) false s l ∙
      lt-leb (suc c) (num t s) (omega (arith, here)))
    where
      bad : ℕ → Bool
      bad s = neg (ask (sure_row arrows n p q) s)

      t : List ℕ
      t = least arrows n (suc c) (λ s. true) bad

      here : num t s ≤ 0
      here =
          subst (λ k. num (least arrows k (suc c) (λ s. true) bad) s ≤ 0) (has_states passed)
          (least_le (drawn passed) (λ s. true) bad (suc c) (omega (arith, has_states passed))
          (stop (ap neg (unsure s l))))
