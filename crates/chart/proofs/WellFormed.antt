-- What a chart that passes checks 1 to 9 tells: of its bytes, and of the chart they stand for.
use mathlib.Core.Path.{◌≡◌, refl, sym, ap, subst}
use mathlib.Core.Bool.{Bool, true, false, not, cond}
use mathlib.Core.List.{List, Memᴰ}
use Prim.Native.Nat.{ℕ, ◌≤◌, ◌<◌}
use native.Mathlib.Omega.{arith}
use lib.ListN.{drop}
use lib.Dec.{ltb, eqb}
use borrow.Author.Tests.{ltb-false, eqb-true, not-false}
use Rattle.base.proofs.Truth.{or_false}
use Rattle.tctl.specs.Chart.{Arrow, up_to, no_end, Within, states}
use Rattle.outcome.specs.Refusal.{lowest}
use Rattle.outcome.proofs.Found.{found_some}
use Rattle.outcome.proofs.First.{unmet_at, zero_iff}
use Rattle.outcome.proofs.Unmet.{unmet_append_iff}
use Rattle.outcome.proofs.Lowest.{none_below, some_lowest}
use Rattle.head.specs.Head.{head_rows, Headed}
use Rattle.head.proofs.Passed.{head_iff}
use Rattle.chart.specs.Bytes.{state_count, arrow_count, arrow_words, arrow_of, is_no_end, most_of, chart_of}
use Rattle.chart.specs.Shape.{Shape}
use Rattle.chart.specs.Refusals.{chart_table, chart_refusal, left_by, empty_slot}
use Rattle.chart.specs.declared.ArrowWords.{ArrowWords}
use Rattle.chart.proofs.Passed.{shape, named}
use Rattle.chart.proofs.Chart.{states_of, arrow_mem, arrow_of_lem}

-- none of the rows' conditions is met
pub record WellFormed (s : List ℕ) : Type 0 where
  pub head : Headed 9 s
  pub shape : Shape s (state_count s) (arrow_count s)
  pub ends :
      (i : ℕ) → i < arrow_count s → ((arrow_words s i).start < state_count s) × ((arrow_words s i).end < state_count s)
  pub slots : (i : ℕ) → i < arrow_count s → empty_slot (arrow_words s i) ≡ false
  pub left : (v : ℕ) → v < state_count s → left_by s (arrow_count s) v ≡ true

-- no row is met, so each condition is false
pub well_formed : (s : List ℕ) → (chart_refusal s).number ≡ 0 → WellFormed s
unfolding chart_table
well_formed s e =
    let n = state_count s in
    let m = arrow_count s in
    let unmet = unmet_at (chart_table s) tt e in
    let parts = (unmet_append_iff (head_rows 1 9 s) (drop 3 (chart_table s))).0 ((zero_iff (chart_table s) tt).0 e) in
    record {
      head = (head_iff 1 9 s).0 parts.0;
      shape = shape s refl refl (unmet 3) (unmet 4) (unmet 5);
      ends = named s n m (unmet 6);
      slots = none_below (λ i. empty_slot (arrow_words s i)) m (unmet 7);
      left = λ v l. not-false (left_by s m v) (none_below (λ v. not (left_by s m v)) n (unmet 8) v l);
    }

-- a slot that is not empty, read as the fewest and the most minutes
slot_within : (w : ArrowWords) → empty_slot w ≡ false → Within w.fewest (most_of w.most)
slot_within w e = turn (is_no_end w.most)
  where
    fits : w.fewest ≤ w.most
    fits = ltb-false w.most w.fewest (or_false (ltb w.most w.fewest) _ e).0

    turn : (b : Bool) → Within w.fewest (cond b no_end (up_to w.most))
    turn true = tt
    turn false = fits

module _ (s : List ℕ) (ok : WellFormed s) where
  pub chart_named :
      (a : Arrow) → Memᴰ a (chart_of s).arrows →
      (a.start < states (chart_of s)) × (a.end < states (chart_of s))
  chart_named a m =
      let x = arrow_of_lem s a m in
      let y = ok.ends x.0 x.1 in
      let e = ap (λ (b : Arrow). b.start) x.2 in
      let f = ap (λ (b : Arrow). b.end) x.2 in
      (omega (arith, y.0, states_of s), omega (arith, y.1, states_of s))

  pub chart_slots : (a : Arrow) → Memᴰ a (chart_of s).arrows → Within a.fewest a.most
  chart_slots a m =
      let x = arrow_of_lem s a m in
      subst (λ b. Within b.fewest b.most) (sym x.2)
      (slot_within (arrow_words s x.0) (ok.slots x.0 x.1))

  -- row 9 found for each state an arrow that leaves it
  pub chart_left : (v : ℕ) → v < states (chart_of s) → (a : Arrow) × Memᴰ a (chart_of s).arrows × (a.start ≡ v)
  unfolding left_by
  chart_left v l =
      let p : ℕ → Bool = λ i. eqb (arrow_words s i).start v in
      let x = found_some (lowest p (arrow_count s)) (ok.left v (omega (arith, states_of s))) in
      let y = some_lowest p (arrow_count s) x.0 x.1 in
      let w = arrow_words s x.0 in
      (arrow_of w, arrow_mem s x.0 y.inside, eqb-true w.start v y.offends)
