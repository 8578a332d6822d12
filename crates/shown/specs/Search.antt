-- What a run is searched by: the best worth for each number of steps, or for "exactly c" the minutes one by one.
use Rattle.std.specs.Prelude.{Bool, false, List, ℕ}
use Rattle.std.proofs.Math.Option.{Option}
use Rattle.outcome.specs.Refusal.{lowest}
use Rattle.tctl.specs.Chart.{Arrow}
use Rattle.tctl.specs.Formula.{Bound, at_most, at_least, exactly}
use Rattle.shown.specs.Shown.{Position}
use Rattle.shown.specs.Steps.{Quest, quickest, lasting, walk, enough}
use Rattle.shown.specs.Exact.{reaches, walk_down}

-- a quest; or exactly c minutes, through the first states to one of the second
pub data Search : Type 0 where
  by_steps : Quest → Search
  by_minutes : ℕ → (ℕ → Bool) → (ℕ → Bool) → Search

-- k steps from s are enough
abbrev pub enough_by : List Arrow → Search → ℕ → ℕ → Bool
enough_by arrows (by_steps z) s k = enough arrows z s k
enough_by arrows (by_minutes c p q) s k = reaches arrows p q k c s

-- and the walk of so many
abbrev pub walk_by : List Arrow → Search → ℕ → ℕ → List Position
walk_by arrows (by_steps z) k s = walk arrows z k s
walk_by arrows (by_minutes c p q) k s = walk_down arrows (reaches arrows p q) k c s

-- the fewest steps, at most 256, that are enough
unfoldable pub fewest_steps : List Arrow → Search → ℕ → Option ℕ
fewest_steps arrows z s = lowest (enough_by arrows z s) 257

-- for an E-until
abbrev pub some_search : Bound → (ℕ → Bool) → (ℕ → Bool) → Search
some_search (at_most c) p q = by_steps (quickest c p q)
some_search (at_least c) p q = by_steps (lasting c p q)
some_search (exactly c) p q = by_minutes c p q

-- nothing is enough
abbrev pub vain : Search
vain = by_steps (quickest 0 (λ s. false) (λ s. false))
