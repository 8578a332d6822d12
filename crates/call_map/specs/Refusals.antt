-- The refusals of map check: the rows of 01's table, in its order and its words, of a detail chart d, an overview o
-- and a map p. What the overview's rows carry is of 02, paper 6.
use Rattle.std.specs.Prelude.{Bool, not, List, [], ◌∷◌, ◌++◌, ℕ, eqb}
use Rattle.outcome.specs.declared.Outcome.{Outcome}
use Rattle.outcome.specs.Entry.{overview}
use Rattle.outcome.specs.Refusal.{Row, refuse, lowest, first, carrying}
use Rattle.chart.specs.Bytes.{state_count, arrow_count, label_word}
use Rattle.loops.specs.Refusal.{accepted_table}
use Rattle.map.specs.Bytes.{entry}
use Rattle.map.specs.Refusals.{form_row, entry_row}
use Rattle.call_map.specs.Covered.{covered_at}

-- "labels differ": the word of state v and that of the state it stands for
abbrev pub labels_differ : List ℕ → List ℕ → List ℕ → ℕ → Bool
labels_differ d o p v = not (eqb (label_word d v) (label_word o (entry p v)))

-- rows 20 to 23
unfoldable pub map_table : List ℕ → List ℕ → List ℕ → List Row
map_table d o p =
    let n = state_count d in
    let m = arrow_count d in
    -- map under 7 bytes, ..
    form_row p n ∷
    -- map entry not an overview state
    entry_row p n (state_count o) ∷
    -- labels differ
    refuse 22 (lowest (labels_differ d o p) n) ∷
    -- arrow not covered
    refuse 23 (lowest (λ i. not (covered_at d o p i)) m) ∷
    []

-- "Overview refusals then use the chart numbers 1 to 9 and 19": a chart's own rows, with the entry "2 overview"
abbrev pub overview_table : List ℕ → List Row
overview_table o = carrying overview (accepted_table o)

-- "Map check tests the detail chart (1 to 9, then 19), then the overview .., then 20 to 23."
unfoldable pub map_check_table : List ℕ → List ℕ → List ℕ → List Row
map_check_table d o p = accepted_table d ++ overview_table o ++ map_table d o p

-- the first row of map check that is met
abbrev pub map_refusal : List ℕ → List ℕ → List ℕ → Outcome
map_refusal d o p = first (map_check_table d o p)
