-- What the engine makes of numbers that start from the operands' marks.
use Rattle.std.specs.Prelude.{◌≡◌, Bool, List, ℕ, ◌≤◌, length}
use Rattle.base.specs.Tabulate.{tabulate}
use Rattle.hints.specs.Values.{values}
use Rattle.ways.specs.declared.Way.{Way}
use Rattle.ways.specs.Way.{highest, Fits, ceiling_of}
use Rattle.engine.specs.AsModel.{minutes_of, settled}
use Rattle.initial.specs.declared.Initial.{Initial}
use Rattle.initial.specs.Initial.{cap_of, start_of, go_of, limit_of}

-- numbers from an initial rise to where the initial says, and its cap is in range
pub record Suits (initial : Initial) (way : Way) : Type 0 where
  pub low : cap_of initial ≤ highest
  pub limit : limit_of initial ≡ ceiling_of way
  pub fits : Fits way

-- numbers from an initial of p and q, as the engine settles them on the way
pub record Risen (initial : Initial) (way : Way) (chart : List ℕ) (n : ℕ) (p q : ℕ → Bool) (ns : List ℕ) : Type 0 where
  pub size : length ns ≡ n
  pub is :
      minutes_of way (values ns) ≡
      settled way chart n (λ s. go_of initial (p s) (q s)) (minutes_of way (tabulate n (λ s. start_of initial (p s) (q s))))
