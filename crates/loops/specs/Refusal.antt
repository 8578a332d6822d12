-- Refusal 19, and the table of an accepted chart. The quoted sentences are of 01, and of 02, paper 4.
use Rattle.std.specs.Prelude.{List, [], ◌∷◌, ◌++◌, ℕ}
use Rattle.model.specs.TimedLoop.{no_timed_loop}
use Rattle.outcome.specs.declared.Outcome.{Outcome}
use Rattle.outcome.specs.Refusal.{Row, refuse, lowest, first}
use Rattle.chart.specs.Bytes.{state_count, chart_of}
use Rattle.chart.specs.Refusals.{chart_table}

-- "a state from which no loop holding an arrow with most above 0 can be reached; the place is the lowest such state" (02)
unfoldable pub loop_row : List ℕ → Row
loop_row s = refuse 19 (lowest (no_timed_loop (chart_of s)) (state_count s))

-- "A chart is accepted exactly if it passes checks 1 to 9 and 19"
unfoldable pub accepted_table : List ℕ → List Row
accepted_table s = chart_table s ++ loop_row s ∷ []

-- the first of them that is met
abbrev pub accepted_refusal : List ℕ → Outcome
accepted_refusal s = first (accepted_table s)
