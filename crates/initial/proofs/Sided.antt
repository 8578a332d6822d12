-- Numbers filled with values and their sides: they are ready for the engine, and those are their values.
use mathlib.Core.Path.{◌≡◌, sym, ap, ◌∙◌}
use mathlib.Core.Bool.{Bool, ◌||◌}
use mathlib.Core.List.{List}
use Prim.Native.Nat.{ℕ, ◌≤◌, ◌<◌}
use native.Mathlib.Omega.{arith}
use Rattle.base.specs.Tabulate.{tabulate}
use Rattle.base.proofs.Tabulate.{tabulate_ext}
use Rattle.model.specs.Engine.{num}
use Rattle.model.proofs.Numbers.{tabulate_numbers}
use Rattle.hints.specs.Values.{value_of, values}
use Rattle.hints.proofs.Values.{value_at, values_length}
use Rattle.ways.specs.declared.Way.{Way}
use Rattle.ways.specs.Way.{highest, top, ceiling_of, side_of, beside}
use Rattle.visits.specs.Moves.{Ready}
use Rattle.initial.specs.declared.Initial.{Initial}
use Rattle.initial.specs.declared.Initial.TheVariants.{Reach, Goal, Fail, Stay}
use Rattle.initial.specs.Initial.{cap_of, start_of, go_of, limit_of, initial_of, placed_of}
use Rattle.initial.specs.Filled.{Filled}
use Rattle.ways.proofs.Reaching.{beside_value}
use Rattle.initial.proofs.Choice.{cond_le}

-- numbers with the values v: through go they are ready
pub record Begun (way : Way) (go : ℕ → Bool) (n : ℕ) (v : ℕ → ℕ) (ns : List ℕ) : Type 0 where
  pub ready : Ready way go ns
  pub starts : values ns ≡ tabulate n v

pub filled_begun :
    (way : Way) (go : ℕ → Bool) (v : ℕ → ℕ) {n : ℕ} {f : ℕ → ℕ} {ns : List ℕ} → ((s : ℕ) → v s ≤ top) →
    ((s : ℕ) → s < n → f s ≡ beside (v s) (side_of way go s (v s))) → Filled n f ns → Begun way go n v ns
filled_begun way go v {n} {ns = ns} low is filled = record { ready = ready; starts = starts }
  where
    value : (s : ℕ) → s < n → value_of (num ns s) ≡ v s
    value s l = beside_value (side_of way go s (v s)) (num ns s) (filled.here s l ∙ is s l) (low s)

    starts : values ns ≡ tabulate n v
    starts =
        tabulate_ext n v 0 (values ns) (values_length ns ∙ filled.size) (λ s l. sym (value_at ns s) ∙ value s l)

    ready : Ready way go ns
    ready =
        record {
          sides =
              λ s l.
              let k : s < n = omega (arith, filled.size) in
              filled.here s k ∙ is s k ∙ ap (λ u. beside u (side_of way go s u)) (sym (value s k));
          within =
              λ s.
              omega (arith, value_at ns s, ap (λ vs. num vs s) starts, (tabulate_numbers n v low).capped s);
        }

-- no value of an initial is above the top
start_low : (initial : Initial) (p q : Bool) → cap_of initial ≤ highest → start_of initial p q ≤ top
start_low (Reach cap) p q h = cond_le q (omega arith) (omega arith)
start_low (Goal cap) p q h = cond_le q (omega arith) (omega arith)
start_low (Fail cap) p q h = cond_le (p || q) (omega arith) (omega arith)
start_low (Stay cap) p q h = cond_le p (omega arith) (omega arith)

pub initial_begun :
    (initial : Initial) (p q : ℕ → Bool) (way : Way) {n : ℕ} {ns : List ℕ} → cap_of initial ≤ highest →
    limit_of initial ≡ ceiling_of way → Filled n (λ s. initial_of initial (p s) (q s)) ns →
    Begun way (λ s. go_of initial (p s) (q s)) n (λ s. start_of initial (p s) (q s)) ns
initial_begun initial p q way low limit =
    filled_begun way (λ s. go_of initial (p s) (q s)) (λ s. start_of initial (p s) (q s))
    (λ s. start_low initial (p s) (q s) low)
    (λ s l. ap (placed_of (start_of initial (p s) (q s)) (go_of initial (p s) (q s))) limit)
