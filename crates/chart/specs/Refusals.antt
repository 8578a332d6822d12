-- Refusals 1 to 9: the rows of 01's table, in its order and its words.
use Rattle.std.specs.Prelude.{Bool, not, ◌||◌, List, [], ◌∷◌, ℕ, length, eqb, ltb, leb}
use Rattle.outcome.specs.declared.Outcome.{Outcome}
use Rattle.outcome.specs.Refusal.{Row, refuse, whole, outside, lowest, found, first}
use Rattle.head.specs.Head.{version, stated_length}
use Rattle.chart.specs.Bytes.{state_count, arrow_count, chart_length, arrow_words}
use Rattle.chart.specs.declared.ArrowWords.{ArrowWords}

-- "names a state n or above"
abbrev pub names_no_state : ℕ → ArrowWords → Bool
names_no_state n w = leb n w.start || leb n w.end

-- "fewest above most, or fewest 65,535"
abbrev pub empty_slot : ArrowWords → Bool
empty_slot w = ltb w.most w.fewest || eqb w.fewest 65535

-- one of the first i arrows leaves state v
unfoldable pub left_by : List ℕ → ℕ → ℕ → Bool
left_by s i v = found (lowest (λ j. eqb (arrow_words s j).start v) i)

-- rows 1 to 9
unfoldable pub chart_table : List ℕ → List Row
chart_table s =
    let n = state_count s in
    let m = arrow_count s in
    -- chart under 9 bytes
    refuse 1 (whole (ltb (length s) 9)) ∷
    -- chart version not 1
    refuse 2 (whole (not (eqb (version s) 1))) ∷
    -- chart's stated length is not the real one
    refuse 3 (whole (not (eqb (stated_length s) (length s)))) ∷
    -- n outside 1 to 256
    refuse 4 (whole (outside 1 256 n)) ∷
    -- m outside 1 to 2,048
    refuse 5 (whole (outside 1 2048 m)) ∷
    -- length not 9 + 2n + 8m
    refuse 6 (whole (not (eqb (length s) (chart_length s)))) ∷
    -- arrow names a state n or above
    refuse 7 (lowest (λ i. names_no_state n (arrow_words s i)) m) ∷
    -- fewest above most, or fewest 65,535
    refuse 8 (lowest (λ i. empty_slot (arrow_words s i)) m) ∷
    -- state without an outgoing arrow
    refuse 9 (lowest (λ v. not (left_by s m v)) n) ∷
    []

-- the first of them that is met
abbrev pub chart_refusal : List ℕ → Outcome
chart_refusal s = first (chart_table s)
