-- How much the desk program reads. The quoted words are of 01, "Two charts to try".
use Rattle.std.specs.Prelude.{◌≡◌, List, ℕ, ◌<◌, length}
use Rattle.io.specs.Counts.{IsPrefixLen}
use Rattle.chart.specs.Refusals.{chart_refusal}
use Rattle.rule.specs.Refusals.{rule_refusal}

-- "the first 16,906 bytes at most of desk.cht"
abbrev pub chart_read : ℕ
chart_read = 16906

-- "and the first 520 at most of desk.rul"
abbrev pub rule_read : ℕ
rule_read = 520

-- room for just that, and how many bytes of it were read
pub record Files (chart : List ℕ) (chartSize : ℕ) (rule : List ℕ) (ruleSize : ℕ) : Type 0 where
  pub chart_room : length chart ≡ chart_read
  pub rule_room : length rule ≡ rule_read
  pub chart_count : IsPrefixLen chartSize chart
  pub rule_count : IsPrefixLen ruleSize rule

-- "each one more than the longest accepted": what is accepted is shorter, so of a longer file it shows that it is. That
-- a chart and a rule of one byte less are accepted is shown by the files of tests/files/large, which the program lists.
pub record OneMore : Type 0 where
  pub chart : (s : List ℕ) → (chart_refusal s).number ≡ 0 → length s < chart_read
  pub rule : (s : List ℕ) → (rule_refusal s).number ≡ 0 → length s < rule_read
