-- The all-until with "at most c": it is met along every run just if no path is late.
use mathlib.Core.Path.{sym, subst}
use mathlib.Core.Logic.{by_cases}
use Prim.Native.Nat.{ℕ, zero, suc, ◌+◌, ◌≤◌, ◌<◌}
use native.Mathlib.Omega.{arith}
use native.Mathlib.Decide.{dec_le}
use Rattle.base.specs.Sum.{sum}
use Rattle.tctl.specs.Chart.{Chart, states}
use Rattle.tctl.specs.Run.{Run, Step, moment}
use Rattle.tctl.specs.Formula.{Bound, at_most}
use Rattle.tctl.proofs.Drawn.{Drawn, step_below}
use Rattle.tctl.specs.Path.{Path, stop, step, minutes, Any}
use Rattle.tctl.proofs.Run.{Lively, first, after, moment_after}
use Rattle.tctl.proofs.Until.{Until, now, later}
use Rattle.tctl.proofs.Unmet.{Unmet, unmet_here, unmet_ahead}

-- P holds and Q does not: the until is still open
abbrev pub Waits : (ℕ → Type 0) → (ℕ → Type 0) → ℕ → Type 0
Waits P Q s = P s × (¬ Q s)

-- neither holds: the until has failed
abbrev pub Fails : (ℕ → Type 0) → (ℕ → Type 0) → ℕ → Type 0
Fails P Q s = (¬ P s) × (¬ Q s)

-- a path of waiting states, from s at the moment k, that fails, or waits until the moment m
pub data Late (G : Chart) (P Q : ℕ → Type 0) (m k s : ℕ) : Type 0 where
  fails : Path G (Waits P Q) (Fails P Q) s → Late G P Q m k s
  lasts : (p : Path G (Waits P Q) Any s) → m ≤ k + minutes p → Late G P Q m k s

module _ {G : Chart} (dr : Drawn G) (live : Lively G) {P Q : ℕ → Type 0} where
  -- Q is missing up to the last state and P at the last state, so that no bound is met
  pub fails_unmet : {b : Bound} (k : ℕ) {s : ℕ} → s < states G → Path G (Waits P Q) (Fails P Q) s → Unmet G P Q b k s
  fails_unmet k l (stop {s} f) = unmet_here (λ m. f.1) f.0 (live s l)
  fails_unmet k l (step {d = d} g x p) = unmet_ahead (λ m. g.1) x (fails_unmet (k + d) (step_below dr x) p)

  -- Q is missing until after the moment c
  lasts_unmet :
      {c : ℕ} (k : ℕ) {s : ℕ} → s < states G → (p : Path G (Waits P Q) Any s) → c < k + minutes p →
      Unmet G P Q (at_most c) k s
  lasts_unmet k l (stop {s} t) h = record { run = live s l; never = λ u. omega arith }
  lasts_unmet k l (step {d = d} g x p) h =
      unmet_ahead (λ m. g.1) x (lasts_unmet (k + d) (step_below dr x) p (omega arith))

  pub late_unmet : {c s : ℕ} → s < states G → Late G P Q (suc c) 0 s → Unmet G P Q (at_most c) 0 s
  late_unmet l (fails p) = fails_unmet 0 l p
  late_unmet l (lasts p h) = lasts_unmet 0 l p h

pub late_ahead :
    {G : Chart} {P Q : ℕ → Type 0} {m k s d t : ℕ} → Waits P Q s → Step G s d t → Late G P Q m (k + d) t →
    Late G P Q m k s
late_ahead g x (fails p) = fails (step g x p)
late_ahead g x (lasts p h) = lasts (step g x p) (omega arith)

module _
    {G : Chart}
    {P Q : ℕ → Type 0}
    (dec_p : (s : ℕ) → Dec (P s))
    (decQ : (s : ℕ) → Dec (Q s))
    {m c : ℕ}
    (m≤c+1 : m ≤ suc c) where
  -- Along the run: where Q holds it is met; where neither holds a path fails; where P alone holds, go on. Before the
  -- moments pass c it is met, for otherwise a path lasts.
  met_by :
      (i k : ℕ) {s : ℕ} → ¬ Late G P Q m k s → (r : Run G s) → c < k + moment r i →
      Until P Q (at_most c) k r.state r.duration
  unfolding sum
  met_by zero k no_late r h = absurd (no_late (lasts (stop tt) (omega arith)))
  met_by (suc i) k {s} no_late r h =
      turn (λ w. met_by i (k + d) w (after r) (omega (arith, moment_after r i))) (decQ s) (dec_p s)
    where
      d : ℕ
      d = r.duration 0

      turn :
          (¬ Late G P Q m (k + d) (r.state 1) → Until P Q (at_most c) (k + d) (after r).state (after r).duration) →
          Dec (Q s) →
          Dec (P s) →
          Until P Q (at_most c) k r.state r.duration
      turn ih (yes q) p =
          let early : k ≤ c = by_cases (dec_le k c) (λ l. l) (λ l. absurd (no_late (lasts (stop tt) (omega arith)))) in
          now early (subst Q (sym r.starts) q)
      turn ih (no q) (no p) = absurd (no_late (fails (stop (p, q))))
      turn ih (no q) (yes p) =
          later (subst P (sym r.starts) p) (ih (λ w. no_late (late_ahead (p, q) (first r) w)))

  pub met_unless_late :
      {s : ℕ} → ¬ Late G P Q m 0 s → (r : Run G s) → Until P Q (at_most c) 0 r.state r.duration
  met_unless_late no_late r = let x = r.passes c in met_by x.0 0 no_late r (omega (arith, x.1))
