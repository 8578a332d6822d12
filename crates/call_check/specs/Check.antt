-- The call check (01, "Calls"): a chart and a rule judged by the first engine, on 4n numbers; for exact bounds minute by
-- minute, on 256 × n (02, paper 7).
use Rattle.std.specs.Prelude.{false, List, ℕ}
use Rattle.outcome.specs.declared.Outcome.{Outcome}
use Rattle.outcome.specs.Refusal.{Row}
use Rattle.judge.specs.Judge.{judge_table, judge_refusal, Promised}

-- rows 1 to 19
abbrev pub check_table : List ℕ → List ℕ → List ℕ → List ℕ → List Row
check_table = judge_table false

-- the first row of check that is met
abbrev pub check_refusal : List ℕ → List ℕ → List ℕ → List ℕ → Outcome
check_refusal = judge_refusal false

-- all that check promises: its answer, and the marks and the scratch afterwards
abbrev pub Checked : List ℕ → List ℕ → List ℕ → List ℕ → Outcome → List ℕ → List ℕ → Type 0
Checked = Promised false
