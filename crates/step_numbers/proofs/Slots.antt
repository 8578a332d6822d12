-- The size of slots: of an arrow's words, and of a chart's arrows.
use mathlib.Core.Path.{◌≡◌, refl, sym, subst}
use mathlib.Core.Bool.{Bool, true, false, cond}
use mathlib.Core.List.{List, Memᴰ}
use Prim.Native.Nat.{ℕ, ◌≤◌}
use native.Mathlib.Omega.{arith}
use Rattle.tctl.specs.Chart.{Arrow, up_to, no_end}
use Rattle.chart.specs.declared.ArrowWords.{ArrowWords}
use Rattle.chart.specs.Bytes.{arrow_words, arrow_of, is_no_end, most_of, chart_of}
use Rattle.chart.specs.Shape.{InRange, Slot}
use Rattle.chart.proofs.Chart.{arrow_of_lem}
use Rattle.step_numbers.specs.declared.Measure.{Measure}
use Rattle.step_numbers.specs.declared.Measure.TheVariants.{Least, Greatest}
use Rattle.step_numbers.specs.Stored.{heft, weight_of}
use Rattle.step_numbers.specs.Slots.{Slots}

heft_low : (w : ℕ) → InRange w → heft (most_of w) ≤ 65537
heft_low w range = turn (is_no_end w) refl
  where
    turn : (b : Bool) → is_no_end w ≡ b → heft (cond b no_end (up_to w)) ≤ 65537
    turn true e = omega arith
    turn false e = omega (arith, range e)

pub weight_low : (measure : Measure) {w : ArrowWords} → Slot w → weight_of measure (arrow_of w) ≤ 65537
weight_low Least slot = omega arith
weight_low (Greatest cap) {w} slot = heft_low w.most slot.most

pub arrow_slots :
    (chart : List ℕ) → Slots chart → (a : Arrow) → Memᴰ a (chart_of chart).arrows →
    (a.fewest ≤ 65535) × (heft a.most ≤ 65537)
arrow_slots chart slots a m =
    let x = arrow_of_lem chart a m in
    let slot = slots x.0 x.1 in
    subst (λ b. (b.fewest ≤ 65535) × (heft b.most ≤ 65537)) (sym x.2)
    (omega (arith, slot.fewest), heft_low (arrow_words chart x.0).most slot.most)
