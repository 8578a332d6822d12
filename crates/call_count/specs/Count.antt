-- The call count (02, paper 2): "Count the minutes one by one", a chart and a rule judged minute by minute, on 256 × n
-- numbers.
use Rattle.std.specs.Prelude.{true, List, ℕ}
use Rattle.outcome.specs.declared.Outcome.{Outcome}
use Rattle.outcome.specs.Refusal.{Row}
use Rattle.judge.specs.Judge.{judge_table, judge_refusal, Promised}

-- rows 1 to 16, "63 after check 16", and 17 to 19
abbrev pub count_table : List ℕ → List ℕ → List ℕ → List ℕ → List Row
count_table = judge_table true

-- the first row of count that is met
abbrev pub count_refusal : List ℕ → List ℕ → List ℕ → List ℕ → Outcome
count_refusal = judge_refusal true

-- all that count promises: its answer, and the marks and the scratch afterwards
abbrev pub Counted : List ℕ → List ℕ → List ℕ → List ℕ → Outcome → List ℕ → List ℕ → Type 0
Counted = Promised true
