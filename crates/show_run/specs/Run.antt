-- What is looked for at a node that can be shown, by the words of its until, and the run that is written for it.
use Rattle.std.specs.Prelude.{◌≡◌, Bool, true, false, cond, List, [], ℕ, suc, ◌+◌, ◌*◌, ◌≤◌, ◌<◌, length, take, drop, eqb, ltb}
use Rattle.std.specs.Prelude.{Option as Returned, IfSome}
use Rattle.std.specs.Option.{unwrap_or}
use Rattle.std.proofs.Math.Option.{Option, none, some}
use Rattle.tctl.specs.Chart.{Arrow}
use Rattle.model.specs.Marks.{flag}
use Rattle.append.specs.Piece.{AtFront}
use Rattle.chart.specs.Bytes.{chart_of}
use Rattle.chart.specs.Shape.{Passed}
use Rattle.rule.specs.declared.NodeWords.{NodeWords}
use Rattle.rule.specs.Refusals.{is_exact}
use Rattle.shown.specs.Shown.{Position, duration_at}
use Rattle.shown.specs.Search.{Search, by_steps, by_minutes, walk_by, fewest_steps}
use Rattle.step_numbers.specs.declared.Target.{Target}
use Rattle.step_numbers.specs.declared.Measure.TheVariants.{Least, Greatest}
use Rattle.step_numbers.specs.Target.{highest, quest_for}
use Rattle.run_walk.specs.RunBytes.{run_bytes}
use Rattle.show_refusals.specs.Fits.{table_size}

-- E-untils, at most c and at least c, and an A-until, at most c
abbrev pub soon_target : ℕ → Target
soon_target c = record { all = false; measure = Least; full = suc c; need = 1 }

abbrev pub long_target : ℕ → Target
long_target c = record { all = false; measure = Greatest (suc c); full = 1; need = suc c }

abbrev pub late_target : ℕ → Target
late_target c =
    record { all = true; measure = Greatest (suc (suc c)); full = suc (suc c); need = suc (suc c) }

-- by operation and kind, 1 or 2; kind 3 has no target
abbrev pub target_of : NodeWords → Target
target_of w =
    cond (eqb w.operation 6) (late_target w.c) (cond (eqb w.kind 1) (soon_target w.c) (long_target w.c))

-- the row of node t in a table of marks
abbrev pub row_of : ℕ → List ℕ → ℕ → List ℕ
row_of n marks t = take n (drop (t * n) marks)

-- the search for the node's run, by the rows of its operands; "exactly c" goes by minutes
abbrev pub search_by : NodeWords → (ℕ → Bool) → (ℕ → Bool) → Search
search_by w p q = cond (is_exact w) (by_minutes w.c p q) (by_steps (quest_for (target_of w) p q))

abbrev pub search_in : ℕ → List ℕ → NodeWords → Search
search_in n marks w = search_by w (flag (row_of n marks w.a)) (flag (row_of n marks w.b))

-- the walk of so many steps, if it fits
abbrev pub fitting : List Arrow → Search → ℕ → ℕ → Option ℕ → List Position
fitting arrows z s room none = []
fitting arrows z s room (some k) = cond (ltb room (6 * suc k)) [] (walk_by arrows z k s)

-- the walk of the fewest steps, if it fits
abbrev pub run_in : List Arrow → Search → ℕ → ℕ → List Position
run_in arrows z s room = fitting arrows z s room (fewest_steps arrows z s)

-- what is asked: a chart that passes checks 1 to 9, the rows of the operands, and a table of the full size; "with c at
-- most 255" where it is exact (02, paper 7)
pub record Searchable
    (chart : List ℕ)
    (n m : ℕ)
    (w : NodeWords)
    (marks : List ℕ)
    (state : ℕ)
    (table : List ℕ) : Type 0 where
  pub passed : Passed chart n m
  pub small : w.c < 65536
  pub exact : is_exact w ≡ true → w.c < 256
  pub left : w.a * n + n ≤ length marks
  pub right : w.b * n + n ≤ length marks
  pub inside : state < n
  pub room : table_size n ≤ length table

-- that run stands at the front, r its size if there is one, and none of its durations is above the highest number that
-- is asked for
pub record Ran (chart : List ℕ) (z : Search) (state : ℕ) (r : Returned ℕ) (old new : List ℕ) : Type 0 where
  pub front : AtFront (run_bytes (run_in (chart_of chart).arrows z state (length old))) (unwrap_or r 0) old new
  pub written : IfSome r (λ size. 1 ≤ size)
  pub brief : (i : ℕ) → duration_at (run_in (chart_of chart).arrows z state (length old)) i ≤ highest
