-- Runs: who has one, a step and then a run, a run after its first step, a run by a rule for its next step, and their moments.
use mathlib.Core.Path.{◌≡◌, refl, sym, subst}
use Prim.Native.Nat.{ℕ, zero, suc, ◌+◌, ◌<◌}
use Rattle.base.proofs.Sum.{sum_suc}
use Rattle.tctl.specs.Chart.{Chart, states}
use Rattle.tctl.specs.Run.{Passes, Run, Step, moment}
use Rattle.tctl.proofs.Drawn.{Drawn, step_below}
use Rattle.tctl.proofs.Path.{step_cast}
use Rattle.tctl.proofs.Passes.{front, passes_front, passes_rest}

-- every state has a run
abbrev pub Lively : Chart → Type 0
Lively G = (s : ℕ) → s < states G → Run G s

module _ {G : Chart} where
  -- ── A step and then a run ──

  abbrev pub ahead : {s d t : ℕ} → Step G s d t → Run G t → Run G s
  ahead {s} {d} {t} x r =
      record {
        state = front s r.state;
        duration = front d r.duration;
        starts = refl;
        moves = moves;
        passes = passes_front d r.duration r.passes;
      }
    where
      moves : (i : ℕ) → Step G (front s r.state i) (front d r.duration i) (front s r.state (suc i))
      moves zero = step_cast refl r.starts x
      moves (suc i) = r.moves i

  -- ── A run after its first step ──

  pub first : {s : ℕ} (r : Run G s) → Step G s (r.duration 0) (r.state 1)
  first r = step_cast (sym r.starts) refl (r.moves 0)

  abbrev pub after : {s : ℕ} (r : Run G s) → Run G (r.state 1)
  after r =
      record {
        state = λ i. r.state (suc i);
        duration = λ i. r.duration (suc i);
        starts = refl;
        moves = λ i. r.moves (suc i);
        passes = passes_rest r.duration r.passes;
      }

  pub moment_after : {s : ℕ} (r : Run G s) (i : ℕ) → moment r (suc i) ≡ r.duration 0 + moment (after r) i
  moment_after r i = sum_suc r.duration i

  -- a run stays in the chart's states
  pub run_below : Drawn G → {s : ℕ} → s < states G → (r : Run G s) (i : ℕ) → r.state i < states G
  run_below dr l r zero = subst (λ u. u < states G) (sym r.starts) l
  run_below dr l r (suc i) = step_below dr (r.moves i)

-- ── The run of a rule that knows a next step for every x, if its durations pass every number ──

module _ {G : Chart} {S : Type 0} (at : S → ℕ) (next : (x : S) → (y : S) × (d : ℕ) × Step G (at x) d (at y)) where
  abbrev pub walk : S → ℕ → S
  walk x zero = x
  walk x (suc i) = walk (next x).0 i

  abbrev pub moves : (x : S) (i : ℕ) → Step G (at (walk x i)) (next (walk x i)).1 (at (walk x (suc i)))
  moves x zero = (next x).2
  moves x (suc i) = moves (next x).0 i

  -- its durations
  abbrev pub paces : S → ℕ → ℕ
  paces x i = (next (walk x i)).1

  abbrev pub unroll : (x : S) → Passes (paces x) → Run G (at x)
  unroll x f = record { state = λ i. at (walk x i); duration = paces x; starts = refl; moves = moves x; passes = f }

-- ── A rule that knows a step from every state of the chart ──

module _ {G : Chart} (dr : Drawn G) (leave : (s : ℕ) → s < states G → (t : ℕ) × (d : ℕ) × Step G s d t) where
  abbrev pub State : Type 0
  State = (s : ℕ) × s < states G

  abbrev pub onward : (x : State) → (y : State) × (d : ℕ) × Step G x.0 d y.0
  onward x =
      let w = leave x.0 x.1 in
      ((w.0, step_below dr w.2), w.1, w.2)
