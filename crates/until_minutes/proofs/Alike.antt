-- The table and the words ask of states alone: where tasks and tests agree below n, what is filled and collected by one
-- is so by the other.
use mathlib.Core.Path.{◌≡◌, sym, ◌∙◌}
use mathlib.Core.Bool.{Bool}
use mathlib.Core.List.{List}
use Prim.Native.Nat.{ℕ, suc, ◌<◌}
use native.Mathlib.Omega.{arith}
use Rattle.base.proofs.Same.{Same}
use Rattle.tctl.proofs.Drawn.{Joins}
use Rattle.chart.specs.Bytes.{arrow_count, arrow_words, chart_of}
use Rattle.chart.specs.Shape.{Passed}
use Rattle.chart.proofs.Reading.{counted, arrow_ends, drawn, has_states}
use Rattle.minutes.specs.Makes.{Task}
use Rattle.minutes.specs.Table.{makes}
use Rattle.minutes.proofs.Latest.{latest_local}
use Rattle.minutes.proofs.Same.{SameTask, makes_same}
use Rattle.moves.specs.declared.Ends.{Ends}
use Rattle.moves.specs.Moves.{Collected}
use Rattle.minute_rows.specs.Filled.{RowsFilled}

module _ {chart : List ℕ} {n m : ℕ} (passed : Passed chart n m) where
  pub joins : Joins n (chart_of chart).arrows
  joins a k =
      let d = drawn passed in
      (omega (arith, d.starts a k, has_states passed), omega (arith, d.ends a k, has_states passed))

  -- rows that are filled for one task are so for another that agrees below n: both make the same
  pub filled_same :
      {w w' : Task} → SameTask n w w' → {k : ℕ} {numbers : List ℕ} → RowsFilled (chart_of chart) n w k numbers →
      RowsFilled (chart_of chart) n w' k numbers
  filled_same {w} {w'} same f =
      let arrows = (chart_of chart).arrows in
      record {
        last = λ m s l h.
            f.last m s l h ∙
            latest_local (λ r. makes arrows n w r s) (λ r. makes arrows n w' r s) (suc (suc m))
            (λ r j. makes_same joins same r s h);
      }

  -- arrows start from states, so those that go where one test says yes go where another does that agrees below n
  pub collected_same :
      {f g : ℕ → Bool} → Same n f g → {ends : Ends} {words : List ℕ} → Collected chart f ends words →
      Collected chart g ends words
  collected_same {f} {g} same c =
      record {
        front = c.front;
        back = c.back;
        some = λ i h. let x = c.some i h in (x.0, x.1, sym (at x.0 x.1) ∙ x.2, x.3);
        instant = λ j l e. c.instant j l (at j l ∙ e);
        later = λ j l e. c.later j l (at j l ∙ e);
      }
    where
      at : (j : ℕ) → j < arrow_count chart → f (arrow_words chart j).start ≡ g (arrow_words chart j).start
      at j l = same (arrow_words chart j).start (arrow_ends (counted passed) j l).0
