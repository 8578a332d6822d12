-- A chart's bytes. The quoted sentences are of 01, "Bytes of a chart, a rule and a map".
use Rattle.std.specs.Prelude.{Bool, cond, List, ℕ, ◌+◌, ◌*◌, eqb}
use Rattle.words.specs.Word.{word}
use Rattle.base.specs.Tabulate.{tabulate}
use Rattle.tctl.specs.Chart.{Chart, Arrow, Most, up_to, no_end}
use Rattle.chart.specs.declared.ArrowWords.{ArrowWords}

-- "n in bytes 5 to 6"
abbrev pub state_count : List ℕ → ℕ
state_count s = word s 5

-- "arrow count m in 7 to 8"
abbrev pub arrow_count : List ℕ → ℕ
arrow_count s = word s 7

-- "n label words of 2 bytes"
abbrev pub label_word : List ℕ → ℕ → ℕ
label_word s v = word s (9 + 2 * v)

-- "m arrows of 8 bytes": where arrow i begins
abbrev pub arrow_place : List ℕ → ℕ → ℕ
arrow_place s i = 9 + 2 * state_count s + 8 * i

-- "Length 9 + 2n + 8m": where an arrow after the last would begin
abbrev pub chart_length : List ℕ → ℕ
chart_length s = arrow_place s (arrow_count s)

-- "start, end, fewest, most"
unfoldable pub arrow_words : List ℕ → ℕ → ArrowWords
arrow_words s i =
    let at = arrow_place s i in
    record { start = word s at; end = word s (at + 2); fewest = word s (at + 4); most = word s (at + 6) }

-- "Most = 65,535 is 'no end'"
abbrev pub is_no_end : ℕ → Bool
is_no_end w = eqb w 65535

-- the most that a word stands for
abbrev pub most_of : ℕ → Most
most_of w = cond (is_no_end w) no_end (up_to w)

-- the arrow that words stand for
abbrev pub arrow_of : ArrowWords → Arrow
arrow_of w = record { start = w.start; end = w.end; fewest = w.fewest; most = most_of w.most }

-- the chart that the bytes stand for
unfoldable pub chart_of : List ℕ → Chart
chart_of s =
    record {
      labels = tabulate (state_count s) (label_word s);
      arrows = tabulate (arrow_count s) (λ i. arrow_of (arrow_words s i));
    }
