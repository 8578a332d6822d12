-- What a chart that passes checks 1 to 9 leaves for reading its arrows.
use mathlib.Core.Path.{◌≡◌, refl, sym, subst₂}
use mathlib.Core.List.{List}
use Prim.Native.Nat.{ℕ, ◌+◌, ◌*◌, ◌≤◌, ◌<◌}
use native.Mathlib.Omega.{arith}
use lib.ListN.{length}
use lib.Dec.{ltb}
use borrow.Author.Tests.{eqb-false}
use Rattle.base.proofs.Truth.{or_false}
use Rattle.tctl.specs.Chart.{states}
use Rattle.tctl.proofs.Drawn.{Drawn}
use Rattle.chart.specs.Bytes.{arrow_count, arrow_words, chart_of}
use Rattle.chart.specs.Shape.{Small, Slot, Shape, Passed}
use Rattle.chart.proofs.WellFormed.{WellFormed, well_formed, chart_named, chart_slots}
use Rattle.chart.proofs.Chart.{states_of}

module _ {s : List ℕ} {n m : ℕ} (p : Passed s n m) where
  ok : WellFormed s
  ok = well_formed s p.unrefused

  pub shaped : Shape s n m
  shaped = subst₂ (Shape s) (sym p.states) (sym p.arrows) ok.shape

  -- the arrows are as many as the chart says
  pub counted : Passed s n (arrow_count s)
  counted = record { states = p.states; arrows = refl; unrefused = p.unrefused }

  pub arrow_ends : (i : ℕ) → i < m → ((arrow_words s i).start < n) × ((arrow_words s i).end < n)
  arrow_ends i l =
      let x = ok.ends i (omega (arith, p.arrows)) in
      (omega (arith, x.0, p.states), omega (arith, x.1, p.states))

  -- a word of two bytes that is not 65,535 is at most 65,534
  pub slot : (i : ℕ) → i < m → Small (arrow_words s i) → Slot (arrow_words s i)
  slot i l small =
      let w = arrow_words s i in
      let above = (or_false (ltb w.most w.fewest) _ (ok.slots i (omega (arith, p.arrows)))).1 in
      record {
        fewest = omega (arith, small.fewest, eqb-false w.fewest 65535 above);
        most = λ e. omega (arith, small.most, eqb-false w.most 65535 e);
      }

  pub labels_inside : 9 + 2 * n ≤ length s
  labels_inside = omega (arith, p.states, ok.shape.whole)

  pub has_states : states (chart_of s) ≡ n
  has_states = omega (arith, states_of s, p.states)

  pub drawn : Drawn (chart_of s)
  drawn =
      record {
        starts = λ a k. (chart_named s ok a k).0;
        ends = λ a k. (chart_named s ok a k).1;
        slots = chart_slots s ok;
      }
