-- Which states the arrows leave, as sets of 64.
use Rattle.std.specs.Prelude.{◌≡◌, List, ℕ, ◌/◌, ◌%◌, ◌<◌, length, get_or}
use Rattle.masks.specs.Member.{member}
use Rattle.chart.specs.Refusals.{left_by}

-- the sets, each of 64 states, have the states that the first i arrows leave
pub record Leaves (s : List ℕ) (i : ℕ) (left : List ℕ) : Type 0 where
  pub size : length left ≡ 4
  pub tells : (v : ℕ) → v < 256 → member (get_or left (v / 64) 0) (v % 64) ≡ left_by s i v
