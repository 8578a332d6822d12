-- What trying all arrows makes of the numbers.
use Rattle.std.specs.Prelude.{Bool, Option, Some, None, is_some, unwrap_or, List, ℕ, ◌+◌, ◌≤◌, ◌<◌}
use Rattle.hints.specs.Values.{values}
use Rattle.ways.specs.declared.Way.{Way}
use Rattle.visits.specs.Moves.{Ready, arrow_at, Held, Went}

-- the starts of the arrows from lo on and before hi have what these offer
abbrev pub Still : Way → List ℕ → (ℕ → Bool) → ℕ → ℕ → List ℕ → Type 0
Still way chart go lo hi vs = (i : ℕ) → lo ≤ i → i < hi → Held way go (arrow_at chart i) vs vs

-- the place after the arrow that was found, or the floor if none was
abbrev pub after : ℕ → Option ℕ → ℕ
after floor (Some i) = i + 1
after floor None = floor

-- the arrows from r on and before k raise no number, r being the floor or more
pub record Quiet (way : Way) (chart : List ℕ) (floor r k : ℕ) (ns : List ℕ) : Type 0 where
  pub above : floor ≤ r
  pub inside : r ≤ k
  pub held : (go : ℕ → Bool) → Ready way go ns → Still way chart go r k (values ns)

-- what a sweep made of the numbers, `last` being the last arrow that raised one: each start has what its arrows offered,
-- and the arrows before the last, all if there is none, would raise none now
pub record Sweep (way : Way) (chart : List ℕ) (m : ℕ) (go : ℕ →
    Bool) (last : Option ℕ) (old new : List ℕ) : Type 0 where
  pub went : Went way chart m go (is_some last) old new
  pub held : (i : ℕ) → i < m → Held way go (arrow_at chart i) (values old) (values new)
  pub still : Still way chart go 0 (unwrap_or last m) (values new)

-- whatever states are gone through, if the arrows before the floor would raise no number
pub record Sweeps (way : Way) (chart : List ℕ) (m floor : ℕ) (last : Option ℕ) (old new : List ℕ) : Type 0 where
  pub low : unwrap_or last m ≤ m
  pub made :
      (go : ℕ → Bool) → Ready way go old → Still way chart go 0 floor (values old) → Sweep way chart m go last old new
