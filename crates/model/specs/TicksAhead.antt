-- The engine's numbers by which row 19 is decided.
use Rattle.std.specs.Prelude.{true, List, map, ℕ, suc}
use Rattle.tctl.specs.Chart.{Arrow}
use Rattle.model.specs.Engine.{greatest}
use Rattle.model.specs.Decide.{ticking}

-- for each state 1 and the most ticks of a path from it, up to n + 1: a path of n ticks goes round a loop in which one passes
unfoldable pub ticks_ahead : List Arrow → ℕ → List ℕ
ticks_ahead arrows n = greatest (map ticking arrows) n (suc n) (λ s. true) (λ s. 1)
