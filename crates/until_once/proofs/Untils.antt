-- The rows of the untils that one run of the engine settles.
use mathlib.Core.Path.{◌≡◌, refl, sym, ap, ◌∙◌}
use mathlib.Core.Bool.{Bool, true, false, cond}
use mathlib.Core.List.{List}
use Prim.Native.Nat.{ℕ, suc, ◌+◌, ◌-◌, ◌<◌}
use native.Mathlib.Omega.{arith}
use lib.Dec.{leb, ltb}
use Rattle.tctl.specs.Chart.{Arrow}
use Rattle.tctl.specs.Formula.{at_most, at_least}
use Rattle.model.specs.Engine.{num, lowered, least, greatest}
use Rattle.model.specs.Decide.{some_row, waits, all_row}
use Rattle.base.proofs.Same.{Same}
use Rattle.chart.specs.Bytes.{chart_of}
use Rattle.hints.specs.Values.{value_of, values}
use Rattle.hints.proofs.Values.{value_at}
use Rattle.ways.specs.declared.Way.TheVariants.{Lower, Raise}
use Rattle.ways.specs.Way.{top, left_over}
use Rattle.initial.specs.declared.Initial.TheVariants.{Reach, Goal}
use Rattle.until_start.specs.Risen.{Risen}
use Rattle.until_start.specs.Meets.{some_meets, all_meet, unhindered_up_to}
use Rattle.until_start.proofs.Waits.{row_answers, up_to, one_more, left_at, at_most_left, left_tabulated, left_reach, plain_answers}

-- ── E(p until q) ──

module _ {chart ns : List ℕ} {n : ℕ} {p q : ℕ → Bool} (c : ℕ) where
  pub some_at_most :
      c < 65536 → Risen (Reach (c + 1)) Lower chart n p q ns →
      Same n (λ s. ltb (top - (c + 1)) (value_of (num ns s))) (some_meets (at_most c) (chart_of chart).arrows n p q)
  unfolding some_row least
  some_at_most h r s l =
      at_most_left c (value_of (num ns s)) (omega arith) ∙
      ap (λ v. leb v c) (sym (left_at ns s (omega (arith, r.size)))) ∙
      up_to (num (left_over (values ns)) s) c ∙
      row_answers (λ v. ltb v (suc c))
      (r.is ∙
      ap (lowered (chart_of chart).arrows n p)
      (left_tabulated n _ (λ s. cond (q s) 0 (c + 1)) (λ s l. left_reach (q s) (c + 1) (omega arith))) ∙
      ap (λ k. least (chart_of chart).arrows n k p q) (one_more c)) s l

  pub some_at_least :
      Risen (Goal (c + 1)) (Raise (record { ticks = false; leap = false; cap = c + 1 })) chart n p q ns →
      Same n (λ s. ltb c (value_of (num ns s))) (some_meets (at_least c) (chart_of chart).arrows n p q)
  unfolding some_row greatest
  some_at_least r s l =
      ap (ltb c) (value_at ns s) ∙
      row_answers (ltb c)
      (r.is ∙ ap (λ k. greatest (chart_of chart).arrows n k p (λ s. cond (q s) 1 0)) (one_more c)) s l

-- ── A(p until q), by the waits ──

module _ (n : ℕ) (arrows : List Arrow) (p q : ℕ → Bool) where
  pub all_at_most : (c : ℕ) → Same n (unhindered_up_to false (c + 1) arrows n p q) (all_meet (at_most c) arrows n p q)
  unfolding all_row
  all_at_most c s l =
      ap (λ k. leb (num (waits arrows n k p q) s) k) (one_more c) ∙
      row_answers (λ v. leb v (suc c)) {ws = waits arrows n (suc c) p q} refl s l

  pub all_plain : {c : ℕ} → c ≡ 0 → Same n (unhindered_up_to true n arrows n p q) (all_meet (at_least c) arrows n p q)
  unfolding all_row
  all_plain e = rw e (plain_answers n arrows p q)
