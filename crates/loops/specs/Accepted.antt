-- An accepted chart, its bytes and its meaning. The quoted sentences are of 01, "Bytes of a chart, a rule and a map".
use Rattle.std.specs.Prelude.{◌≡◌, false, List, ℕ, ◌≤◌, ◌<◌, length}
use Rattle.tctl.specs.Accepted.{Accepted}
use Rattle.head.specs.Head.{Headed}
use Rattle.chart.specs.Bytes.{state_count, arrow_count, chart_length, arrow_words, chart_of}
use Rattle.chart.specs.Refusals.{empty_slot}

-- what is asked of the bytes alone: rows 1 to 6, and row 8 of the words
pub record ChartFormat (s : List ℕ) : Type 0 where
  -- 9 bytes at least, version 1, the stated length the real one
  pub head : Headed 9 s
  -- "n in bytes 5 to 6 (1 to 256)"
  pub some_states : 1 ≤ state_count s
  pub few_states : state_count s ≤ 256
  -- "arrow count m in 7 to 8 (1 to 2,048)"
  pub some_arrows : 1 ≤ arrow_count s
  pub few_arrows : arrow_count s ≤ 2048
  -- "Length 9 + 2n + 8m."
  pub whole : length s ≡ chart_length s
  -- not "fewest above most, or fewest 65,535"
  pub slots : (i : ℕ) → i < arrow_count s → empty_slot (arrow_words s i) ≡ false

-- the bytes have the format of a chart, and the chart they stand for is accepted
pub record AcceptedChart (s : List ℕ) : Type 0 where
  pub format : ChartFormat s
  pub meaning : Accepted (chart_of s)
