-- The table of refusals 1 to 9 by parts: what the rows that are passed tell.
use mathlib.Core.Path.{◌≡◌, subst₂}
use mathlib.Core.Bool.{not}
use mathlib.Core.List.{List}
use mathlib.Core.Option.{none}
use Prim.Native.Nat.{ℕ, ◌<◌}
use native.Mathlib.Omega.{arith}
use lib.ListN.{length, drop}
use lib.Dec.{leb, eqb}
use borrow.Author.Tests.{leb-false}
use Rattle.base.proofs.Truth.{or_false}
use Rattle.outcome.specs.declared.Outcome.{Outcome}
use Rattle.outcome.specs.Refusal.{whole, outside, lowest, first, rows}
use Rattle.outcome.proofs.Whole.{whole_none, none_equal, inside}
use Rattle.outcome.proofs.First.{unmet_at}
use Rattle.outcome.proofs.Lowest.{none_below}
use Rattle.chart.specs.Bytes.{state_count, arrow_count, chart_length, arrow_words}
use Rattle.chart.specs.Shape.{Shape}
use Rattle.chart.specs.Refusals.{chart_table, names_no_state}
use Rattle.chart.specs.Rows.{body_rows}

module _ (s : List ℕ) where
  module _ {n m : ℕ} (en : n ≡ state_count s) (em : m ≡ arrow_count s) where
    -- checks 4 to 6 leave the shape
    pub shape :
        whole (outside 1 256 (state_count s)) ≡ none →
        whole (outside 1 2048 (arrow_count s)) ≡ none →
        whole (not (eqb (length s) (chart_length s))) ≡ none →
        Shape s n m
    shape a b d =
        let x = inside 1 256 (state_count s) (whole_none (outside 1 256 (state_count s)) a) in
        let y = inside 1 2048 (arrow_count s) (whole_none (outside 1 2048 (arrow_count s)) b) in
        let z = none_equal (length s) (chart_length s) d in
        record {
          states = en;
          arrows = em;
          some_states = omega (arith, x.0);
          few_states = omega (arith, x.1);
          some_arrows = omega (arith, y.0);
          few_arrows = omega (arith, y.1);
          whole = z;
        }

    pub size_passed : (first (rows 3 3 (chart_table s))).number ≡ 0 → Shape s n m
    unfolding chart_table
    size_passed e =
        let unmet = unmet_at (rows 3 3 (chart_table s)) tt e in
        shape (unmet 0) (unmet 1) (unmet 2)

    -- rows 7 to 9 are the last three
    pub body_last : {x : Outcome} → x ≡ first (body_rows s n m) → x ≡ first (drop 6 (chart_table s))
    unfolding chart_table
    body_last {x} = subst₂ (λ k l. x ≡ first (body_rows s k l)) en em

  -- check 7 leaves arrows that name states
  pub named :
      (n m : ℕ) → lowest (λ i. names_no_state n (arrow_words s i)) m ≡ none → (i : ℕ) → i < m →
      ((arrow_words s i).start < n) × ((arrow_words s i).end < n)
  named n m e i l =
      let w = arrow_words s i in
      let passes = none_below (λ i. names_no_state n (arrow_words s i)) m e i l in
      let k = or_false (leb n w.start) (leb n w.end) passes in
      (leb-false n w.start k.0, leb-false n w.end k.1)
