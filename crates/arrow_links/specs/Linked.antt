-- The arrows of each state, linked from the lowest up.
use Rattle.std.specs.Prelude.{◌≡◌, List, ℕ, ◌+◌, ◌≤◌, ◌<◌, length}
use Rattle.model.specs.Engine.{num}
use Rattle.chart.specs.Bytes.{arrow_words}

-- i is the lowest of the arrows from s that are numbered `low` or more and below m; m if there is none
pub record Lowest (chart : List ℕ) (m s low i : ℕ) : Type 0 where
  pub up : low ≤ i
  pub most : i ≤ m
  pub leaves : i < m → (arrow_words chart i).start ≡ s
  pub under : (j : ℕ) → low ≤ j → j < m → (arrow_words chart j).start ≡ s → i ≤ j

-- of the arrows from `low` on: each state's lowest, and after each arrow the next from the same state
pub record Linked (chart : List ℕ) (n m low : ℕ) (firsts nexts : List ℕ) : Type 0 where
  pub room_firsts : n ≤ length firsts
  pub room_nexts : m ≤ length nexts
  pub first : (s : ℕ) → s < n → Lowest chart m s low (num firsts s)
  pub next : (i : ℕ) → low ≤ i → i < m → Lowest chart m (arrow_words chart i).start (i + 1) (num nexts i)
