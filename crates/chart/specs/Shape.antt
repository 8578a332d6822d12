-- What functions ask of a chart's bytes and of an arrow's words, and what reading promises of a word's size.
use Rattle.std.specs.Prelude.{◌≡◌, false, List, ℕ, ◌+◌, ◌≤◌, ◌<◌, length}
use Rattle.chart.specs.Bytes.{state_count, arrow_count, arrow_place, chart_length, is_no_end}
use Rattle.chart.specs.Refusals.{chart_refusal}
use Rattle.chart.specs.declared.ArrowWords.{ArrowWords}

-- the words of an arrow are of two bytes
pub record Small (w : ArrowWords) : Type 0 where
  pub start : w.start < 65536
  pub end : w.end < 65536
  pub fewest : w.fewest < 65536
  pub most : w.most < 65536

-- the most minutes that a slot's words stand for, "no end" aside
abbrev pub longest : ℕ
longest = 65534

-- a word as a most, in range: "no end", or not above the longest
abbrev pub InRange : ℕ → Type 0
InRange w = is_no_end w ≡ false → w ≤ longest

-- what check 8 leaves of the size of a slot's words, for sums of minutes
pub record Slot (w : ArrowWords) : Type 0 where
  pub fewest : w.fewest ≤ longest
  pub most : InRange w.most

-- n states, and arrow i lies in the bytes
pub record Inside (s : List ℕ) (n i : ℕ) : Type 0 where
  pub states : n ≡ state_count s
  pub whole : arrow_place s (i + 1) ≤ length s

-- n states and m arrows, as checks 1 to 6 leave them
pub record Shape (s : List ℕ) (n m : ℕ) : Type 0 where
  pub states : n ≡ state_count s
  pub arrows : m ≡ arrow_count s
  pub some_states : 1 ≤ n
  pub few_states : n ≤ 256
  pub some_arrows : 1 ≤ m
  pub few_arrows : m ≤ 2048
  pub whole : length s ≡ chart_length s

-- a chart with n states and m arrows that passes checks 1 to 9
pub record Passed (s : List ℕ) (n m : ℕ) : Type 0 where
  pub states : n ≡ state_count s
  pub arrows : m ≡ arrow_count s
  pub unrefused : (chart_refusal s).number ≡ 0
