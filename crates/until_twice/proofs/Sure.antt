-- A(p until q, at least c), c above 0: the minutes from a sure start, compared with c, are its row.
use mathlib.Core.Path.{◌≡◌, refl, sym, ap, ◌∙◌}
use mathlib.Core.Bool.{Bool, true, false, cond, ◌&&◌, ◌||◌}
use mathlib.Core.Bool.{not as neg}
use mathlib.Core.List.{List}
use Prim.Native.Nat.{ℕ, zero, suc, ◌-◌, ◌≤◌, ◌<◌}
use native.Mathlib.Omega.{arith}
use lib.ListN.{length}
use lib.Dec.{eqb, leb}
use Rattle.tctl.specs.Chart.{Arrow}
use Rattle.tctl.specs.Formula.{at_least}
use Rattle.base.proofs.Tabulate.{get_d_tabulate}
use Rattle.model.specs.Engine.{num, lowered, least}
use Rattle.model.specs.Decide.{ask, plain_row, leads_to, sure_row, all_row}
use Rattle.base.proofs.Every.{every_same}
use Rattle.base.proofs.Same.{Same}
use Rattle.tctl.proofs.Drawn.{Joins}
use Rattle.chart.specs.Bytes.{chart_of}
use Rattle.hints.specs.Values.{value_of, tested_of, values}
use Rattle.ways.specs.declared.Way.TheVariants.{Lower}
use Rattle.ways.specs.Way.{top, left_over, ceiling_of, side_of, beside}
use Rattle.visits.specs.Moves.{Ready}
use Rattle.engine.specs.AsModel.{AsModel}
use Rattle.initial.specs.Initial.{placed_of}
use Rattle.initial.specs.Filled.{Filled}
use Rattle.initial.proofs.Choice.{cond_le}
use Rattle.initial.proofs.Sided.{Begun, filled_begun}
use Rattle.until_twice.specs.Starts.{sure_start}
use Rattle.until_start.proofs.Waits.{row_answers, left_at, at_least_left, left_tabulated}

-- c minutes where p holds and every arrow leads well, else 0
left_sure :
    (p well : Bool) (c : ℕ) → c ≤ top → top - cond well (cond p (top - c) top) top ≡ cond (neg (p && well)) 0 c
left_sure true true c h = omega arith
left_sure true false c h = omega arith
left_sure false true c h = omega arith
left_sure false false c h = omega arith

-- a value that stays or becomes the top has the side that it asks for
sure_side :
    (b : Bool) (u s : ℕ) →
    cond b (placed_of u true top) (beside top true) ≡ beside (cond b u top) (side_of Lower (λ s. true) s (cond b u top))
unfolding ceiling_of
sure_side true u s = refl
sure_side false u s = refl

module _
    {n : ℕ}
    {arrows : List Arrow}
    (joins : Joins n arrows)
    (p q : ℕ → Bool)
    {good : ℕ → Bool}
    (goods : Same n good (ask (plain_row arrows n p q))) where
  abbrev plain : ℕ → Bool
  plain = ask (plain_row arrows n p q)

  abbrev sure : ℕ → Bool
  sure = ask (sure_row arrows n p q)

  -- an arrow leads to a state, so good is asked of states alone
  sure_is : (s : ℕ) → s < n → (p s && leads_to arrows good s) ≡ sure s
  unfolding sure_row
  sure_is s l =
      ap (λ b. p s && b)
      (every_same _ (λ a. neg (eqb a.start s) || plain a.end) arrows
      (λ a m. ap (λ b. neg (eqb a.start s) || b) (goods a.end (joins a m).1))) ∙
      sym (get_d_tabulate n (λ s. p s && leads_to arrows plain s) false s l)

  -- c minutes where p', which is p, holds, then 0 where an arrow leads to a state that is not good: the sure start,
  -- state by state
  pub starts_sure :
      (c : ℕ) → c ≤ top → {p' : ℕ → Bool} {us ns : List ℕ} → Same n p' p →
      Filled n (λ s. placed_of (cond (p' s) (top - c) top) true top) us →
      Filled n (λ s. cond (leads_to arrows good s) (tested_of (num us s)) (beside top true)) ns →
      Ready Lower (λ s. true) ns × (left_over (values ns) ≡ sure_start arrows n p q c)
  unfolding sure_start
  starts_sure c h {p'} {us} {ns} ps stay clear =
      (begun.ready, ap left_over begun.starts ∙ left_tabulated n v (λ s. cond (neg (sure s)) 0 c) start)
    where
      stays : ℕ → ℕ
      stays s = cond (p' s) (top - c) top

      v : ℕ → ℕ
      v s = cond (leads_to arrows good s) (stays s) top

      low : (s : ℕ) → v s ≤ top
      low s = cond_le (leads_to arrows good s) (cond_le (p' s) (omega arith) (omega arith)) (omega arith)

      begun : Begun Lower (λ s. true) n v ns
      begun =
          filled_begun Lower (λ s. true) v low
          (λ s l.
          ap (λ x. cond (leads_to arrows good s) x (beside top true)) (stay.here s l) ∙
          sure_side (leads_to arrows good s) (stays s) s)
          clear

      start : Same n (λ s. top - v s) (λ s. cond (neg (sure s)) 0 c)
      start s l =
          ap {B = ℕ} (λ b. top - cond (leads_to arrows good s) (cond b (top - c) top) top) (ps s l) ∙
          left_sure (p s) (leads_to arrows good s) c h ∙
          ap {B = ℕ} (λ b. cond (neg b) 0 c) (sure_is s l)

-- the minutes of a sure start, lowered through every state
pub all_at_least :
    {chart us ns : List ℕ} {n : ℕ} (p q : ℕ → Bool) (c : ℕ) → length ns ≡ n → 0 < c → c ≤ top →
    left_over (values us) ≡ sure_start (chart_of chart).arrows n p q c → AsModel Lower chart n (λ s. true) us ns →
    Same n (λ s. leb (value_of (num ns s)) (top - c)) (ask (all_row (chart_of chart).arrows n (at_least c) p q))
unfolding all_row sure_start least
all_at_least p q zero size h k start r s l = absurd (let z : ⊥ = omega arith in z)
all_at_least {chart} {ns = ns} {n} p q (suc c) size h k start r s l =
    at_least_left (suc c) (value_of (num ns s)) h k ∙
    ap (leb (suc c)) (sym (left_at ns s (omega (arith, size)))) ∙
    row_answers (leb (suc c)) (r.is ∙ ap (lowered (chart_of chart).arrows n (λ s. true)) start) s l
