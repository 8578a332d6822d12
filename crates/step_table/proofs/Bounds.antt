-- No number of the table is higher than is asked for.
use mathlib.Core.Bool.{Bool, true, false, ◌||◌}
use mathlib.Core.List.{List}
use Prim.Native.Nat.{ℕ, zero, suc, ◌≤◌}
use native.Mathlib.Omega.{arith}
use Rattle.base.proofs.Truth.{cond_elim}
use Rattle.tctl.specs.Chart.{Arrow}
use Rattle.model.proofs.Raise.{offer_le}
use Rattle.shown.specs.Steps.{by_step}
use Rattle.shown.proofs.Table.{table_low}
use Rattle.step_numbers.specs.declared.Measure.{Measure}
use Rattle.step_numbers.specs.declared.Target.{Target}
use Rattle.step_numbers.specs.declared.Measure.TheVariants.{Least, Greatest}
use Rattle.step_numbers.proofs.Slots.{weight_low}
use Rattle.step_table.specs.Table.{Weights, Light}
use Rattle.step_numbers.specs.Target.{highest, base_of, worth_of, quest_for, Capped, greatest, Fair}

pub base_low : (all : Bool) (full : ℕ) (p q : Bool) → full ≤ highest → base_of all full p q ≤ highest
base_low true full p q l = cond_elim (λ v. v ≤ highest) (p || q) (λ e. omega arith) (λ e. l)
base_low false full p q l = cond_elim (λ v. v ≤ highest) q (λ e. l) (λ e. omega arith)

worth_low : (measure : Measure) → Capped measure → (a : Arrow) (v : ℕ) → v ≤ highest → worth_of measure a v ≤ highest
worth_low Least fits a v l = omega arith
worth_low (Greatest cap) fits a zero l = omega arith
worth_low (Greatest cap) (greatest some low) a (suc v) l = omega (arith, offer_le cap a.most (suc v))

pub step_low :
    {target : Target} → Fair target → (p q : ℕ → Bool) (arrows : List Arrow) (k s : ℕ) →
    by_step arrows (quest_for target p q) k s ≤ highest
step_low {target} fair p q arrows =
    table_low arrows (quest_for target p q) highest
    (λ s. base_low target.all target.full (p s) (q s) fair.full) (worth_low target.measure fair.capped)

-- the weights of a chart's arrows are no higher either
pub weights_light :
    {measure : Measure} {chart weights : List ℕ} → Weights measure chart weights → Light chart weights
weights_light {measure} w =
    record { room = w.room; low = λ i l. omega (arith, w.are i l, weight_low measure (w.slots i l)) }
