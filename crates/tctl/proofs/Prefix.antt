-- The first steps of a run, and of any unending sequence of steps, are a path.
use mathlib.Core.Path.{◌≡◌, refl, sym, ◌∙◌}
use Prim.Native.Nat.{ℕ, zero, suc, ◌<◌}
use native.Mathlib.Omega.{arith}
use Rattle.base.specs.Sum.{sum}
use Rattle.base.proofs.Sum.{sum_suc}
use Rattle.tctl.specs.Chart.{Chart}
use Rattle.tctl.specs.Run.{Step, Run, moment}
use Rattle.tctl.specs.Path.{Path, stop, step, steps, minutes}
use Rattle.tctl.proofs.Path.{cast, steps_cast, minutes_cast}

-- an unending sequence of steps
abbrev pub Steps : Chart → (ℕ → ℕ) → (ℕ → ℕ) → Type 0
Steps G state duration = (i : ℕ) → Step G (state i) (duration i) (state (suc i))

module _ {G : Chart} {go end : ℕ → Type 0} where
  pub first_steps :
      (state duration : ℕ → ℕ) → Steps G state duration → (k : ℕ) →
      end (state k) → ((j : ℕ) → j < k → go (state j)) →
      (p : Path G go end (state 0)) × (steps p ≡ k) × (minutes p ≡ sum duration k)
  unfolding sum
  first_steps state duration moves zero e b = (stop e, refl, refl)
  first_steps state duration moves (suc k) e b =
      let next : ℕ → ℕ = λ i. state (suc i) in
      let q = first_steps next (λ i. duration (suc i)) (λ i. moves (suc i)) k e (λ j l. b (suc j) (omega arith)) in (
        step (b 0 (omega arith)) (moves 0) q.0,
        omega (arith, q.1),
        omega (arith, q.2, sum_suc duration k),
      )

  pub prefix :
      {s : ℕ} (r : Run G s) (k : ℕ) →
      end (r.state k) →
      ((j : ℕ) → j < k → go (r.state j)) →
      (p : Path G go end s) × (steps p ≡ k) × (minutes p ≡ moment r k)
  prefix r k e b =
      let q = first_steps r.state r.duration r.moves k e b in
      let c = sym r.starts in
      (cast c q.0, steps_cast c q.0 ∙ q.1, minutes_cast c q.0 ∙ q.2)
