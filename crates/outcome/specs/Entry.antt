-- Which paper was wrong: the third entry of an outcome. The quoted words are of 02, paper 6.
use Rattle.std.specs.Prelude.{cond, ◌&&◌, List, [], ◌∷◌, ℕ, leb}

-- "0 none, 1 chart or detail, 2 overview, 3 rule, 4 map, 5 a buffer"
abbrev pub none_wrong : ℕ
none_wrong = 0

abbrev pub chart_or_detail : ℕ
chart_or_detail = 1

abbrev pub overview : ℕ
overview = 2

abbrev pub rule : ℕ
rule = 3

abbrev pub map : ℕ
map = 4

abbrev pub buffer : ℕ
buffer = 5

-- numbers, from the first to the last, and the entry that they carry
pub data Carry : Type 0 where
  carry : ℕ → ℕ → ℕ → Carry

-- every number that a call answers. A chart's own are the overview's too, which then carry its entry.
abbrev pub entries : List Carry
entries =
    carry 1 9 chart_or_detail ∷
    -- "rule and node faults"
    carry 10 16 rule ∷
    -- "short buffers"
    carry 17 18 buffer ∷
    carry 19 19 chart_or_detail ∷
    -- "20 to 22 carry 4, 23 carries 1"
    carry 20 22 map ∷
    carry 23 23 chart_or_detail ∷
    -- "with 60 and 63 to 65 carry 3"
    carry 60 60 rule ∷
    -- "short buffers and 62 carry 5"
    carry 61 62 buffer ∷
    carry 63 65 rule ∷
    carry 66 66 buffer ∷
    []

-- the entry of a number by such a table; "any other .. carries 0", and so does success
abbrev pub carried : List Carry → ℕ → ℕ
carried [] n = none_wrong
carried (carry first last entry ∷ rest) n = cond (leb first n && leb n last) entry (carried rest n)

-- the entry that a number carries
unfoldable pub entry_of : ℕ → ℕ
entry_of n = carried entries n
