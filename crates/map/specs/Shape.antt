-- What reading a map asks of its bytes.
use Rattle.std.specs.Prelude.{List, ℕ, ◌+◌, ◌*◌, ◌≤◌, ◌<◌, length}
use Rattle.map.specs.Bytes.{entry}

-- the map has an entry for each of n detail states, and each names one of k overview states
pub record Mapped (p : List ℕ) (n k : ℕ) : Type 0 where
  pub whole : 7 + 2 * n ≤ length p
  pub inside : (v : ℕ) → v < n → entry p v < k
