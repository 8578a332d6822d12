-- The run that goes round a loop for ever.
use mathlib.Core.Path.{◌≡◌, refl, sym, subst}
use Prim.Native.Nat.{ℕ, zero, suc, ◌+◌, ◌≤◌}
use native.Mathlib.Omega.{arith}
use Rattle.base.specs.Sum.{sum}
use Rattle.tctl.specs.Chart.{Chart}
use Rattle.tctl.specs.Run.{Passes, Run, Step}
use Rattle.tctl.specs.Path.{Path, stop, step, To, minutes}
use Rattle.tctl.proofs.Path.{step_cast}
use Rattle.tctl.proofs.Run.{paces, unroll}
use Rattle.base.proofs.Sum.{sum_suc}

-- a loop: a step from u, and the way back to u
module _ {G : Chart} {go : ℕ → Type 0} {u d t : ℕ} (g : go u) (x : Step G u d t) (back : Path G go (To u) t) where
  -- a state, and what is left of the way from it to u
  abbrev Left : Type 0
  Left = (s : ℕ) × Path G go (To u) s

  abbrev onward : {s : ℕ} → Path G go (To u) s → (v : Left) × (e : ℕ) × Step G s e v.0
  onward (stop e) = ((t, back), d, step_cast e refl x)
  onward (step {d = e} {t = v} h y p) = ((v, p), e, y)

  -- the durations on the way to u, and then round the loop for ever
  abbrev pace : {s : ℕ} → Path G go (To u) s → ℕ → ℕ
  pace {s} p = paces {G = G} {S = Left} (λ w. w.0) (λ w. onward w.1) (s, p)

  -- what the moments pass from u on, they pass after the way to u
  passes_on :
      (c : ℕ) → ((s : ℕ) (e : s ≡ u) → (i : ℕ) × c ≤ sum (pace (stop e)) i) →
      {s : ℕ} (p : Path G go (To u) s) → (i : ℕ) × c + minutes p ≤ sum (pace p) i
  passes_on c f (stop {s} e) = let z = f s e in (z.0, omega (arith, z.1))
  passes_on c f (step h y p) =
      let z = passes_on c f p in
      (suc z.0, omega (arith, z.1, sum_suc (pace (step h y p)) z.0))

  -- each time round the loop adds a minute
  passes_from : 1 ≤ d + minutes back → (c s : ℕ) (e : s ≡ u) → (i : ℕ) × c ≤ sum (pace (stop e)) i
  passes_from long zero s e = (0, omega arith)
  passes_from long (suc c) s e =
      let z = passes_on c (passes_from long c) back in
      (suc z.0, omega (arith, z.1, sum_suc (pace (stop e)) z.0))

  passes : 1 ≤ d + minutes back → {s : ℕ} (p : Path G go (To u) s) → Passes (pace p)
  passes long p c = let z = passes_on (suc c) (passes_from long (suc c)) p in (z.0, omega (arith, z.1))

  abbrev round : 1 ≤ d + minutes back → {s : ℕ} → Path G go (To u) s → Run G s
  round long {s} p = unroll {S = Left} (λ w. w.0) (λ w. onward w.1) (s, p) (passes long p)

  goes_now : {s : ℕ} → Path G go (To u) s → go s
  goes_now (stop e) = subst go (sym e) g
  goes_now (step h y p) = h

  goes : (long : 1 ≤ d + minutes back) {s : ℕ} (p : Path G go (To u) s) (i : ℕ) → go ((round long p).state i)
  goes long p zero = goes_now p
  goes long {s = s} p (suc i) = goes long {s = (onward p).0.0} (onward p).0.1 i

-- a path to a loop that takes a minute, and round the loop for ever: every state satisfies go
pub forever :
    {G : Chart} {go : ℕ → Type 0} {u : ℕ} (loop : Path G go (To u) u) →
    1 ≤ minutes loop →
    {s : ℕ} (stem : Path G go (To u) s) → (r : Run G s) × ((i : ℕ) → go (r.state i))
forever (stop e) long stem = absurd (let z : ⊥ = omega arith in z)
forever (step g x back) long stem = (round g x back long stem, goes g x back long stem)
