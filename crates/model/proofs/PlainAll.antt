-- To fail an until with no bound: after n waits the answer is yes just where a path of ticks is late, and so where some
-- run does not meet the until.
use mathlib.Core.Path.{◌≡◌, refl, sym, ◌∙◌}
use mathlib.Core.Logic.{◌↔◌, ⊎_elim}
use mathlib.Core.List.{map}
use mathlib.Core.Bool.{Bool, true, false, false≢true}
use Prim.Native.Nat.{ℕ, zero, suc, ◌+◌, ◌-◌, ◌≤◌, ◌<◌, min}
use native.Mathlib.Omega.{arith}
use lib.Dec.{leb}
use borrow.Author.Tests.{leb-false, lt-leb}
use Rattle.base.specs.Yes.{Yes}
use Rattle.base.proofs.Truth.{true_or_false}
use Rattle.base.proofs.Tabulate.{get_d_tabulate}
use Rattle.tctl.specs.Chart.{Chart, states}
use Rattle.tctl.specs.Formula.{at_least}
use Rattle.tctl.specs.Path.{Path, stop, step, minutes, Any}
use Rattle.tctl.proofs.Drawn.{Drawn, step_below}
use Rattle.tctl.proofs.Run.{Lively}
use Rattle.tctl.proofs.Unmet.{Unmet}
use Rattle.tctl.proofs.AllAtMost.{Waits, Fails, Late, fails, lasts, late_ahead}
use Rattle.model.specs.Engine.{num}
use Rattle.model.specs.Decide.{ask, waits, ticking, plain_row}
use Rattle.model.proofs.Row.{asked}
use Rattle.model.proofs.Ticks.{ticks, ticks_drawn, untick, ticks_le_steps, ticked_step}
use Rattle.model.proofs.Waiting.{waits_iff, waiting_iff}
use Rattle.model.proofs.AllPlainRow.{plain_settles}
use Rattle.minutes.specs.Makes.{Makes, stops, goes}
use Rattle.minutes.specs.Untils.{plain}
use Rattle.minutes.proofs.Tests.{nor_iff}
use Rattle.minutes.proofs.AllMakes.{MetBy}
use Rattle.minutes.proofs.Wait.{waited, wait_task, wait_makes, wait_here, wait_ahead}

module _ {G : Chart} (dr : Drawn G) (p q : ℕ → Bool) where
  -- a late path of ticks from s at the moment j, which fails or waits until the moment m
  abbrev LateAt : ℕ → ℕ → ℕ → Type 0
  LateAt m j s = Late (ticks G) (Yes p) (Yes q) m j s

  makes_late :
      (k : ℕ) → ((s : ℕ) → s < states G → waited G true p q k s ≡ true → (m j : ℕ) → m ≤ j + k → LateAt m j s) →
      {r s : ℕ} → Makes G (wait_task G true p q k) r s → r ≤ 1 → s < states G → (m j : ℕ) → m ≤ j + k + r → LateAt m j s
  makes_late k ih (stops {r = zero} {s} h) one l m j c = ih s l h m j (omega arith)
  makes_late k ih (stops {r = suc i} {s} h) one l m j c = fails (stop ((nor_iff (p s) (q s)).0 h))
  makes_late k ih (goes {r = zero} g y v) one l m j c = absurd (false≢true g)
  makes_late k ih (goes {r = suc i} {s} {d} g y v) one l m j c =
      late_ahead ((waiting_iff p q s).0 g) (ticked_step y)
      (makes_late k ih v (omega arith) (step_below dr y) m (j + min 1 d) (omega arith))

  -- Each wait ends with a step that takes time, a tick; or else in a state that fails.
  waited_late : (k s : ℕ) → s < states G → waited G true p q k s ≡ true → (m j : ℕ) → m ≤ j + k → LateAt m j s
  unfolding plain
  waited_late zero s l h m j c = lasts (stop tt) (omega arith)
  waited_late (suc k) s l h m j c =
      makes_late k (waited_late k) (wait_makes dr true p q k s l h) (omega arith) l m j (omega arith)

  -- By induction on the path, for every number of waits up to its ticks, and c more where the end is good for c. A tick
  -- is a step that takes time, and costs a wait; so does a step of no tick whose arrow always takes time.
  path_waited :
      {end : ℕ → Type 0} (c : ℕ) →
      ((u j : ℕ) → u < states G → end u → j ≤ c → waited G true p q j u ≡ true) →
      {s : ℕ} (w : Path (ticks G) (Waits (Yes p) (Yes q)) end s) (k : ℕ) → k ≤ c + minutes w → s < states G →
      waited G true p q k s ≡ true
  path_waited c ends (stop {s} e) k h l = ends s k l e (omega arith)
  path_waited c ends (step g x w) k h l =
      let y = untick dr x in
      let one = ticks_le_steps dr {go = Any} {end = Any} (step tt x (stop tt)) in
      wait_ahead dr true p q k (λ e. refl) l g y.2
      (path_waited c ends w (k - min 1 y.0) (omega (arith, y.1)) (step_below dr y.2))

  -- before the first wait every state is good
  none_waited : (u j : ℕ) → j ≤ 0 → waited G true p q j u ≡ true
  unfolding plain
  none_waited u zero h = refl
  none_waited u (suc j) h = absurd (let z : ⊥ = omega arith in z)

  late_waited : (k : ℕ) {s : ℕ} → s < states G → LateAt k 0 s → waited G true p q k s ≡ true
  late_waited k l (fails w) =
      let ends : (u j : ℕ) → u < states G → Fails (Yes p) (Yes q) u → j ≤ k → waited G true p q j u ≡ true =
      λ u j low f h. wait_here dr true p q j (λ e. refl) low ((nor_iff (p u) (q u)).1 f) in
      path_waited k ends w k (omega arith) l
  late_waited k l (lasts w h) = path_waited 0 (λ u j low e h. none_waited u j h) w k (omega arith) l

  -- the first engine counts the same ticks
  plain_row_iff :
      (s : ℕ) → s < states G →
      (waited G true p q (states G) s ≡ true) ↔ (ask (plain_row G.arrows (states G) p q) s ≡ false)
  unfolding plain_row
  plain_row_iff s l =
      let n = states G in
      let v : ℕ → ℕ = λ s. num (waits (map ticking G.arrows) n n p q) s in
      let f : ℕ → Bool = λ s. leb (v s) n in
      let i = waits_iff p q (ticks_drawn dr) n s l in (
        λ h. get_d_tabulate n f false s l ∙ lt-leb (v s) n (i.1 (waited_late n s l h n 0 (omega arith))),
        λ h. late_waited n l (i.0 (leb-false (v s) n (asked n f s l h))),
      )

module _ {G : Chart} (dr : Drawn G) (live : Lively G) (p q : ℕ → Bool) (s : ℕ) (low : s < states G) where
  pub plain_unmet :
      plain G.arrows (states G) true p q (states G) s ≡ true → Unmet G (Yes p) (Yes q) (at_least 0) 0 s
  plain_unmet h = (plain_settles dr live p q).unmet s low ((plain_row_iff dr p q s low).0 h)

  pub plain_met : plain G.arrows (states G) true p q (states G) s ≡ false → MetBy G p q (at_least 0) 0 s
  plain_met h =
      (plain_settles dr live p q).met s low
      (⊎_elim (λ e. e) (λ e. absurd (false≢true (sym h ∙ (plain_row_iff dr p q s low).1 e)))
      (true_or_false (ask (plain_row G.arrows (states G) p q) s)))
