-- Covered arrows, as a test. The quoted sentences are of 01, "Refused with number and place".
use Rattle.std.specs.Prelude.{Bool, true, false, ◌&&◌, List, ℕ, eqb, leb}
use Rattle.tctl.specs.Chart.{Arrow, Most, up_to, no_end}
use Rattle.outcome.specs.Refusal.{found, lowest}
use Rattle.chart.specs.Bytes.{arrow_count, arrow_words, arrow_of}

-- the most k contains the most m: "'No end' contains every most", and nothing else contains it
abbrev pub contains : Most → Most → Bool
contains no_end m = true
contains (up_to k) (up_to m) = leb m k
contains (up_to k) no_end = false

-- the arrow a "from the start's mapped state to the end's"
abbrev pub mapped_arrow : (ℕ → ℕ) → Arrow → Arrow
mapped_arrow f a = record { start = f a.start; end = f a.end; fewest = a.fewest; most = a.most }

-- the overview arrow b goes where want does, and "has a slot containing the whole slot" of it
abbrev pub covers : Arrow → Arrow → Bool
covers want b =
    eqb b.start want.start &&
    eqb b.end want.end &&
    leb b.fewest want.fewest &&
    contains b.most want.most

-- "one overview arrow" of the chart o does; "several joined don't count"
unfoldable pub covered : List ℕ → Arrow → Bool
covered o want = found (lowest (λ j. covers want (arrow_of (arrow_words o j))) (arrow_count o))
