-- The rows of the chart's table as the functions test them, of a chart with n states and m arrows.
use Rattle.std.specs.Prelude.{not, List, [], ◌∷◌, ℕ}
use Rattle.outcome.specs.Refusal.{Row, refuse, lowest}
use Rattle.chart.specs.Bytes.{arrow_words}
use Rattle.chart.specs.Refusals.{names_no_state, empty_slot, left_by}

-- row 7
abbrev pub end_row : List ℕ → ℕ → ℕ → Row
end_row s n m = refuse 7 (lowest (λ i. names_no_state n (arrow_words s i)) m)

-- row 8
abbrev pub slot_row : List ℕ → ℕ → Row
slot_row s m = refuse 8 (lowest (λ i. empty_slot (arrow_words s i)) m)

-- rows 7 and 8
abbrev pub arrow_rows : List ℕ → ℕ → ℕ → List Row
arrow_rows s n m = end_row s n m ∷ slot_row s m ∷ []

-- row 9
abbrev pub state_row : List ℕ → ℕ → ℕ → Row
state_row s n m = refuse 9 (lowest (λ v. not (left_by s m v)) n)

-- rows 7 to 9
abbrev pub body_rows : List ℕ → ℕ → ℕ → List Row
body_rows s n m = end_row s n m ∷ slot_row s m ∷ state_row s n m ∷ []
