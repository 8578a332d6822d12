-- The rows of the map's table as the functions test them, and what those functions ask of the bytes.
use Rattle.std.specs.Prelude.{◌≡◌, not, List, [], ◌∷◌, ℕ}
use Rattle.outcome.specs.Refusal.{Row, refuse, lowest}
use Rattle.chart.specs.Bytes.{state_count, arrow_count}
use Rattle.chart.specs.Refusals.{chart_refusal}
use Rattle.chart.specs.Shape.{Passed}
use Rattle.map.specs.Refusals.{entry_row}
use Rattle.map.specs.Shape.{Mapped}
use Rattle.call_map.specs.declared.Sizes.{Sizes}
use Rattle.call_map.specs.Covered.{covered_at}
use Rattle.call_map.specs.Refusals.{labels_differ}

-- a chart of these sizes that passes checks 1 to 9
abbrev pub Sized : List ℕ → Sizes → Type 0
Sized s z = Passed s z.states z.arrows

-- n detail states stand for states of the overview o, which passes checks 1 to 9
abbrev pub Named : List ℕ → List ℕ → ℕ → Type 0
Named o p n = ((chart_refusal o).number ≡ 0) × Mapped p n (state_count o)

-- charts of these sizes, and a map from the states of the one to those of the other
abbrev pub Mapping : List ℕ → Sizes → List ℕ → Sizes → List ℕ → Type 0
Mapping d lower o upper p = Sized d lower × Sized o upper × Mapped p lower.states upper.states

-- row 22
abbrev pub label_row : List ℕ → List ℕ → List ℕ → Row
label_row d o p = refuse 22 (lowest (labels_differ d o p) (state_count d))

-- row 23
abbrev pub cover_row : List ℕ → List ℕ → List ℕ → Row
cover_row d o p = refuse 23 (lowest (λ i. not (covered_at d o p i)) (arrow_count d))

-- rows 22 and 23
abbrev pub last_rows : List ℕ → List ℕ → List ℕ → List Row
last_rows d o p = label_row d o p ∷ cover_row d o p ∷ []

-- rows 21 to 23
abbrev pub mapped_rows : List ℕ → List ℕ → List ℕ → List Row
mapped_rows d o p = entry_row p (state_count d) (state_count o) ∷ last_rows d o p
