-- Runs. The quoted sentences are of 01, "Meaning of charts and rules", and of 02, paper 4.
use Rattle.std.specs.Prelude.{◌≡◌, ℕ, suc, ◌≤◌, ◌<◌}
use mathlib.Core.List.{Memᴰ}
use Rattle.base.specs.Sum.{sum}
use Rattle.tctl.specs.Chart.{Chart, Arrow, Within}

-- "it takes an arrow from there with one duration in its slot": from s to t, in d minutes
pub record Step (G : Chart) (s d t : ℕ) : Type 0 where
  pub arrow : Arrow
  pub drawn : Memᴰ arrow G.arrows
  pub leaves : arrow.start ≡ s
  pub enters : arrow.end ≡ t
  pub least : arrow.fewest ≤ d
  pub greatest : Within d arrow.most

-- "its moments pass every number": for each number a position whose moment is above it
abbrev pub Passes : (ℕ → ℕ) → Type 0
Passes duration = (c : ℕ) → (i : ℕ) × c < sum duration i

-- "A run is unending: at each whole number it has a state": a run from s. Since "a run counts only if its
-- moments pass every number" (02), only these are called runs here.
pub record Run (G : Chart) (s : ℕ) : Type 0 where
  pub state : ℕ → ℕ
  pub duration : ℕ → ℕ
  pub starts : state 0 ≡ s
  pub moves : (i : ℕ) → Step G (state i) (duration i) (state (suc i))
  pub passes : Passes duration

-- "The moment of position 0 is 0; a later moment is the sum of the durations before it."
abbrev pub moment : {G : Chart} {s : ℕ} → Run G s → ℕ → ℕ
moment r = sum r.duration
