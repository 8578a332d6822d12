-- What is lent is what the functions that fill and the engine ask for.
use mathlib.Core.Path.{◌≡◌}
use mathlib.Core.Bool.{Bool, true, false}
use mathlib.Core.List.{List}
use Prim.Native.Nat.{ℕ, ◌+◌, ◌*◌, ◌≤◌}
use native.Mathlib.Omega.{arith}
use Rattle.model.specs.Weighed.{weighed}
use Rattle.model.proofs.Marks.{row_below}
use Rattle.tctl.proofs.Drawn.{Joins}
use Rattle.model.proofs.Same.{joins_ticking}
use Rattle.chart.specs.Bytes.{chart_of}
use Rattle.chart.specs.Shape.{Passed}
use Rattle.chart.proofs.Reading.{drawn, has_states}
use Rattle.rule.specs.declared.NodeWords.{NodeWords}
use Rattle.ways.specs.declared.Way.{Way}
use Rattle.engine.specs.AsModel.{Prepared}
use Rattle.until_start.specs.Lent.{Lent, Able}
use Rattle.operands.specs.FromOperands.{OperandsBelow}

-- the arrows join states, and so they do if they weigh ticks
pub joins :
    {chart : List ℕ} {n m : ℕ} → Passed chart n m → (ticks : Bool) → Joins n (weighed ticks (chart_of chart).arrows)
joins {chart} {n} passed = weigh
  where
    inside : Joins n (chart_of chart).arrows
    inside a k =
        let d = drawn passed in
        (omega (arith, d.starts a k, has_states passed), omega (arith, d.ends a k, has_states passed))

    weigh : (ticks : Bool) → Joins n (weighed ticks (chart_of chart).arrows)
    weigh true = joins_ticking inside
    weigh false = inside

-- the rows of lower nodes lie in a table that holds row t
pub rows_inside :
    {t : ℕ} {w : NodeWords} (n : ℕ) {count size : ℕ} → OperandsBelow t w → count ≡ n → t * n + n ≤ size →
    (count ≡ n) × (w.a * n + n ≤ size) × (w.b * n + n ≤ size)
rows_inside n low e h = (e, omega (arith, row_below n low.left), omega (arith, row_below n low.right))

-- numbers with sides: what the engine asks for
pub lent_prepared :
    {way : Way} {chart : List ℕ} {n m t : ℕ} {marks numbers : List ℕ} → Lent chart n m t marks numbers →
    Able way numbers → Prepared way chart n m numbers
lent_prepared l able =
    record {
      given = record { size = l.size; fits = able.fits };
      go = able.go;
      ready = able.ready;
    }
