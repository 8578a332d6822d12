-- Durations whose moments pass every number, with one more in front and without the first.
use Prim.Native.Nat.{ℕ, zero, suc, ◌+◌, ◌<◌}
use native.Mathlib.Omega.{arith}
use Rattle.base.specs.Sum.{sum}
use Rattle.tctl.specs.Run.{Passes}
use Rattle.base.proofs.Sum.{sum_suc}

-- a sequence with a in front
abbrev pub front : ℕ → (ℕ → ℕ) → ℕ → ℕ
front a f zero = a
front a f (suc i) = f i

pub passes_front : (a : ℕ) (f : ℕ → ℕ) → Passes f → Passes (front a f)
passes_front a f h c =
    let p = h c in
    (suc p.0, omega (arith, p.1, sum_suc (front a f) p.0))

pub passes_rest : (f : ℕ → ℕ) → Passes f → Passes (λ i. f (suc i))
unfolding sum
passes_rest f h c = let p = h (c + f 0) in turn p.0 p.1
  where
    turn : (i : ℕ) → c + f 0 < sum f i → (j : ℕ) × c < sum (λ i. f (suc i)) j
    turn zero l = absurd (let z : ⊥ = omega arith in z)
    turn (suc i) l = (i, omega (arith, sum_suc f i))
