-- What settling a node promises of the marks.
use Rattle.std.specs.Prelude.{◌≡◌, List, ℕ, ◌+◌, ◌*◌, ◌≤◌, ◌<◌, length, get_or}
use Rattle.nodes.specs.Right.{Right}
use Rattle.settle.specs.TimesSettled.{times_settled}

-- node t was settled: the rows of all nodes that this settles hold their marks, rows that held theirs still do, and
-- what lies after row t is as it was
pub record Settled (chart : List ℕ) (n : ℕ) (rule : List ℕ) (t : ℕ) (old new : List ℕ) : Type 0 where
  pub size : length new ≡ length old
  pub done : (u : ℕ) → 0 < times_settled rule t u → Right chart n rule u new
  pub still : (u : ℕ) → Right chart n rule u old → Right chart n rule u new
  pub after : (j : ℕ) → t * n + n ≤ j → get_or new j 0 ≡ get_or old j 0
