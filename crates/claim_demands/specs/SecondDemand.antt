-- The second demand: a state is marked for a node if and only if the node holds there.
use Rattle.std.specs.Prelude.{◌≡◌, Bool, List, ℕ}
use Rattle.outcome.specs.declared.Outcome.{Outcome}
use Rattle.judge.specs.Judge.{Meaning, Promised}

-- for every chart, rule, marks table and scratch, and all that check may leave when it accepts, and count
abbrev pub SecondDemand : Type 0
SecondDemand =
    (counting : Bool) (chart rule marks scratch : List ℕ) (r : Outcome) (newMarks new_scratch : List ℕ) →
    Promised counting chart rule marks scratch r newMarks new_scratch →
    r.number ≡ 0 →
    Meaning chart rule newMarks
