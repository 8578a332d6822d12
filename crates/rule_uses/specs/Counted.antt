-- How often nodes are operands, as two sets.
use Rattle.std.specs.Prelude.{◌≡◌, ℕ, ◌<◌, leb}
use Rattle.masks.specs.Member.{member}
use Rattle.rule_uses.specs.declared.Used.{Used}

-- the set has the nodes whose count is j or more
pub record Reaches (j mask : ℕ) (count : ℕ → ℕ) : Type 0 where
  pub tells : (v : ℕ) → v < 64 → member mask v ≡ leb j (count v)

-- the sets say of each node whether it is used, and whether it is used again
pub record Counted (used : Used) (count : ℕ → ℕ) : Type 0 where
  pub once : Reaches 1 used.once count
  pub again : Reaches 2 used.again count
