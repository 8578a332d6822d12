-- Finite paths of a chart: steps one after the other.
use Rattle.std.specs.Prelude.{◌≡◌, ℕ, suc, ◌+◌}
use Rattle.tctl.specs.Chart.{Chart}
use Rattle.tctl.specs.Run.{Step}

-- a path from s: every state but the last satisfies go, and the last satisfies end
pub data Path (G : Chart) (go end : ℕ → Type 0) : ℕ → Type 0 where
  stop : {s : ℕ} → end s → Path G go end s
  step : {s d t : ℕ} → go s → Step G s d t → Path G go end t → Path G go end s

-- what every state satisfies
abbrev pub Any : ℕ → Type 0
Any s = Unit {0}

-- what t alone satisfies
abbrev pub To : ℕ → ℕ → Type 0
To t s = s ≡ t

module _ {G : Chart} {go end : ℕ → Type 0} where
  -- how many arrows it takes
  abbrev pub steps : {s : ℕ} → Path G go end s → ℕ
  steps (stop e) = 0
  steps (step g x p) = suc (steps p)

  -- "the sum of the durations"
  abbrev pub minutes : {s : ℕ} → Path G go end s → ℕ
  minutes (stop e) = 0
  minutes (step {d = d} g x p) = d + minutes p
