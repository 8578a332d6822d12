-- The run by minutes: the rows are the fewest steps, so the walk by them is the model's.
use mathlib.Core.Path.{◌≡◌, refl, sym, ap, ◌∙◌}
use mathlib.Core.List.{List}
use mathlib.Core.Option.{some}
use Rattle.std.specs.Prelude.{None, Some}
use Prim.Native.Nat.{ℕ, suc, ◌+◌, ◌*◌, ◌≤◌, ◌<◌}
use native.Mathlib.Omega.{arith}
use lib.ListN.{length}
use Rattle.tctl.specs.Chart.{Arrow}
use Rattle.tctl.proofs.Drawn.{Joins}
use Rattle.model.specs.Marks.{flag}
use Rattle.append.specs.Piece.{Appended}
use Rattle.append.proofs.Append.{appended_text}
use Rattle.chart.specs.Bytes.{chart_of}
use Rattle.chart.proofs.Reading.{drawn, has_states}
use Rattle.shown.specs.Exact.{reaches, walk_down, steps_left}
use Rattle.shown.specs.Search.{Search, by_minutes, fewest_steps}
use Rattle.shown.proofs.Fewest.{left_low, left_found, left_none, numbers_onward, walk_by_numbers}
use Rattle.shown.proofs.Walks.{down_brief}
use Rattle.run_walk.specs.RunBytes.{run_bytes}
use Rattle.exact_table.specs.Rows.{left_in, RowsLeft, StepsReady}
use Rattle.exact_walk.specs.Walk.{walk_in, Walkable}
use Rattle.show_run.specs.Run.{Ran}
use Rattle.show_run.proofs.Found.{none_found, too_long, walked}

module _
    {chart : List ℕ}
    {n m c : ℕ}
    {p q table : List ℕ}
    (h : StepsReady chart n m c p q table)
    {s : ℕ}
    (inside : s < n)
    {new : List ℕ}
    (rows : RowsLeft chart n p q (suc c) new) where
  abbrev arrows : List Arrow
  arrows = (chart_of chart).arrows

  abbrev z : Search
  z = by_minutes c (flag p) (flag q)

  abbrev k : ℕ
  k = left_in n new c s

  joins : Joins n arrows
  joins a j =
      let dr = drawn h.passed in
      let count = has_states h.passed in
      (omega (arith, dr.starts a j), omega (arith, dr.ends a j))

  are : (i v : ℕ) → i ≤ c → v < n → left_in n new i v ≡ steps_left arrows (flag p) (flag q) i v
  are i v l = rows.are i v (omega arith)

  is : k ≡ steps_left arrows (flag p) (flag q) c s
  is = are c s (omega arith) inside

  pub minutes_low : left_in n new c s ≤ 257
  minutes_low = omega (arith, is, left_low arrows (flag p) (flag q) c s)

  pub minutes_none : 256 < left_in n new c s → {old : List ℕ} → Ran chart (by_minutes c (flag p) (flag q)) s None old old
  minutes_none l = none_found chart z s (left_none arrows (flag p) (flag q) c s (omega (arith, is)))

  module _ (l : left_in n new c s ≤ 256) where
    few : fewest_steps arrows z s ≡ some k
    few = left_found arrows (flag p) (flag q) c s (omega (arith, is)) ∙ ap some (sym is)

    pub minutes_long :
        {old : List ℕ} → length old < 6 * (left_in n new c s + 1) → Ran chart (by_minutes c (flag p) (flag q)) s None old old
    minutes_long = too_long chart z s few

    module _ {old : List ℕ} (i : 6 * (left_in n new c s + 1) ≤ length old) where
      pub walkable : length new ≡ length table → Walkable chart n m c (left_in n new c s) s new old
      walkable e =
          record {
            passed = h.passed;
            state = inside;
            inside = record { few = h.few; rows = omega (arith, h.room) };
            down = λ left i v l j e few. numbers_onward arrows (flag p) (flag q) joins (left_in n new) are l j e few;
            steps = refl;
            short = omega arith;
            room = omega arith;
          }

      pub minutes_walked :
          {r : ℕ} {out : List ℕ} → Appended 0 (run_bytes (walk_in chart n new (left_in n new c s) c s)) r old out →
          Ran chart (by_minutes c (flag p) (flag q)) s (Some r) old out
      minutes_walked a =
          let same : walk_in chart n new k c s ≡ walk_down arrows (reaches arrows (flag p) (flag q)) k c s =
          walk_by_numbers arrows (flag p) (flag q) joins (left_in n new) are k c s (omega arith) inside (sym is)
          (omega arith) in
          walked chart z s few i
          (λ i. omega (arith, down_brief arrows (reaches arrows (flag p) (flag q)) k c s i, h.few))
          (appended_text (ap run_bytes same) a)
