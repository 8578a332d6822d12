-- `call_reader::step` meets its contract: past the first test the chart passes checks 1 to 9, and the second says whether an
-- arrow has the number.
use mathlib.Core.Path.{◌≡◌, sym, ap, ◌∙◌}
use mathlib.Core.Bool.{Bool, true}
use mathlib.Core.List.{List}
use Prim.Native.Nat.{ℕ, ◌≤◌, ◌<◌}
use native.Mathlib.Omega.{arith}
use lib.ListN.{length}
use lib.Dec.{eqb}
use borrow.Author.Tests.{eqb-true, eqb-false}
use Rattle.std.specs.Prelude.{Option, Some}
use Rattle.chart.specs.declared.ArrowWords.{ArrowWords}
use Rattle.chart.specs.Bytes.{arrow_count}
use Rattle.chart.specs.Shape.{Passed}
use Rattle.chart.specs.Refusals.{chart_refusal}
use Rattle.chart.proofs.WellFormed.{well_formed}
use Rattle.chart.proofs.Arrow.{arrow_inside}
use Rattle.chart.proofs.Reading.{shaped}
use Rattle.call_reader.specs.declared.Stepped.{Stepped}
use Rattle.call_reader.specs.Reading.{handed, number_after, step_of}
use Rattle.call_reader.proofs.InOrder.{hands_out, finished_past, finished_at_once}
use Rattle.call_reader.proofs.step.Goals as goal

-- what is handed out says the number after it
with_number :
    (s : List ℕ) (i : ℕ) {h : Option ArrowWords} → h ≡ handed s i →
    ◌≡◌ {A = Stepped} (record { handed = h; number = number_after h i }) (step_of s i)
with_number s i e = λ t. record { handed = e t; number = number_after (e t) i }

-- what the chart's test says
passed : (s : List ℕ) {b : Bool} → b ≡ eqb (chart_refusal s).number 0 → b ≡ true → (chart_refusal s).number ≡ 0
passed s e z = eqb-true (chart_refusal s).number 0 (sym e ∙ z)

long : (s : List ℕ) {b : Bool} → b ≡ eqb (chart_refusal s).number 0 → b ≡ true → 9 ≤ length s
long s e z = (well_formed s (passed s e z)).head.enough

pub arrow_count-requires : goal.arrow_count-requires
arrow_count-requires c = long _ c.passes.ensures c.if-passes.true

pub state_count-requires : goal.state_count-requires
state_count-requires c = long _ c.passes.ensures c.if-passes.true

pub arrow_at-arrow-requires : goal.arrow_at-arrow-requires
arrow_at-arrow-requires c =
    let p : Passed c.args.chart.now c.state_count.result c.arrow_count.result =
    record {
      states = c.state_count.ensures.0;
      arrows = c.arrow_count.ensures.0;
      unrefused = passed _ c.passes.ensures c.if-passes.true;
    } in
    arrow_inside (shaped p) c.if-number-arrow_count.true

pub returns-then-number-arrow_count : goal.returns-then-number-arrow_count
returns-then-number-arrow_count c =
    let s = c.args.chart.now in
    let i = c.args.number in
    let l : i < arrow_count s = omega (arith, c.if-number-arrow_count.true, c.arrow_count.ensures.0) in
    let unrefused = passed s c.passes.ensures c.if-passes.true in
    with_number s i (ap Some c.arrow_at-arrow.ensures.0 ∙ sym (hands_out s unrefused i l))

pub returns-else-number-arrow_count : goal.returns-else-number-arrow_count
returns-else-number-arrow_count c =
    let s = c.args.chart.now in
    with_number s _ (sym (finished_past s _ (omega (arith, c.if-number-arrow_count.false, c.arrow_count.ensures.0))))

pub returns-else-passes : goal.returns-else-passes
returns-else-passes c =
    let s = c.args.chart.now in
    let no = eqb-false (chart_refusal s).number 0 (sym c.passes.ensures ∙ c.if-passes.false) in
    with_number s _ (sym (finished_at_once s no _))
