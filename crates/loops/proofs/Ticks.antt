-- Row 19 by the numbers of ticks: they begin with 1, and where one is up to n the state reaches no loop on which time can pass.
use mathlib.Core.Path.{◌≡◌, sym, subst, ap, ◌∙◌}
use mathlib.Core.Logic.{◌↔◌, ⊎_elim}
use mathlib.Core.Bool.{true, false, not}
use mathlib.Core.List.{List, [], ◌∷◌, map}
use Prim.Native.Nat.{ℕ, suc, ◌+◌, ◌≤◌, ◌<◌}
use native.Mathlib.Omega.{arith}
use borrow.Author.Tests.{lt-ltb}
use Rattle.base.proofs.Truth.{true_or_false}
use Rattle.base.specs.Tabulate.{tabulate}
use Rattle.tctl.specs.Accepted.{ReachesTimedLoop}
use Rattle.model.specs.Engine.{num, raised, greatest}
use Rattle.model.specs.Decide.{ticking}
use Rattle.model.specs.TimedLoop.{no_timed_loop}
use Rattle.model.specs.TicksAhead.{ticks_ahead}
use Rattle.model.proofs.TimedLoop.{no_timed_loop_iff}
use Rattle.model.proofs.TicksAhead.{ticks_ahead_iff}
use Rattle.outcome.specs.declared.Outcome.{Outcome}
use Rattle.outcome.specs.Refusal.{success, refusal, first}
use Rattle.outcome.proofs.Lowest.{Least}
use Rattle.outcome.proofs.Search.{search_found, search_ended}
use Rattle.chart.specs.Bytes.{state_count, chart_of}
use Rattle.chart.specs.Shape.{Passed}
use Rattle.chart.proofs.Reading.{has_states, drawn}
use Rattle.hints.specs.Values.{values, value_of}
use Rattle.hints.proofs.Values.{value_at}
use Rattle.ways.specs.declared.Way.{Way}
use Rattle.ways.specs.declared.Way.TheVariants.{Raise}
use Rattle.ways.specs.Way.{ceiling_of, side_of, beside}
use Rattle.engine.specs.AsModel.{AsModel}
use Rattle.initial.specs.Filled.{Filled}
use Rattle.initial.proofs.Sided.{Begun, filled_begun}
use Rattle.loops.specs.Refusal.{loop_row}

-- numbers rise by ticks, up to n + 1
abbrev pub by_ticks : ℕ → Way
by_ticks n = Raise (record { ticks = true; leap = false; cap = n + 1 })

-- 1 is below n + 1, so it has no side
one_open : (n : ℕ) → 1 ≤ n → (s : ℕ) → 1 ≡ beside 1 (side_of (by_ticks n) (λ v. true) s 1)
unfolding ceiling_of
one_open n some s = ap (λ b. beside 1 (not b)) (sym (lt-ltb 1 (n + 1) (omega arith)))

pub begun : {n : ℕ} {ns : List ℕ} → 1 ≤ n → Filled n (λ s. 1) ns → Begun (by_ticks n) (λ s. true) n (λ s. 1) ns
begun {n} some = filled_begun (by_ticks n) (λ s. true) (λ s. 1) (λ s. omega arith) (λ s l. one_open n some s)

-- what the engine makes of numbers that are begun so
pub ticks_counted :
    (chart : List ℕ) {old new : List ℕ} {n : ℕ} → Begun (by_ticks n) (λ s. true) n (λ s. 1) old →
    AsModel (by_ticks n) chart n (λ s. true) old new → values new ≡ ticks_ahead (chart_of chart).arrows n
unfolding ticks_ahead greatest
ticks_counted chart {n = n} b m =
    let arrows = map ticking (chart_of chart).arrows in
    let one_more : n + 1 ≡ suc n = omega arith in
    m.is ∙ ap (raised arrows n (n + 1) (λ s. true)) b.starts ∙
    ap (λ cap. raised arrows n cap (λ s. true) (tabulate n (λ s. 1))) one_more

module _ {chart : List ℕ} {n m : ℕ} (p : Passed chart n m)
    (ns : List ℕ) (is : values ns ≡ ticks_ahead (chart_of chart).arrows n) where
  -- a state's number is above n just if it reaches a loop on which time can pass
  above_iff : (s : ℕ) → s < n → (n < value_of (num ns s)) ↔ ReachesTimedLoop (chart_of chart) s
  above_iff s low =
      let e : value_of (num ns s) ≡ num (ticks_ahead (chart_of chart).arrows n) s = value_at ns s ∙ ap (λ vs. num vs s) is in
      let i = subst (λ k. s < k → (k < num (ticks_ahead (chart_of chart).arrows k) s) ↔ ReachesTimedLoop (chart_of chart) s)
      (has_states p) (ticks_ahead_iff (drawn p) s) low in
      subst (λ v. (n < v) ↔ ReachesTimedLoop (chart_of chart) s) (sym e) i

  reaching : (s : ℕ) → s < n → n < value_of (num ns s) → no_timed_loop (chart_of chart) s ≡ false
  reaching s low h = (no_timed_loop_iff (drawn p) s).1 ((above_iff s low).0 h)

  stranded : (s : ℕ) → s < n → value_of (num ns s) ≤ n → no_timed_loop (chart_of chart) s ≡ true
  stranded s low h =
      let denied : no_timed_loop (chart_of chart) s ≡ false → ⊥ =
      λ e. let z = (above_iff s low).1 ((no_timed_loop_iff (drawn p) s).0 e) in omega arith in
      ⊎_elim (λ e. e) (λ e. absurd (denied e)) (true_or_false (no_timed_loop (chart_of chart) s))

  -- the row from what was found
  pub row_met :
      {r : Outcome} (s : ℕ) → s < n → ((v : ℕ) → v < s → n < value_of (num ns v)) → value_of (num ns s) ≤ n →
      r ≡ refusal 19 s → r ≡ first (loop_row chart ∷ [])
  unfolding loop_row
  row_met s low before h e =
      let least : Least (no_timed_loop (chart_of chart)) (state_count chart) s =
      record {
        inside = omega (arith, p.states);
        offends = stranded s low h;
        under = λ v l. reaching v (omega arith) (before v l);
      } in
      e ∙ search_found 19 least

  pub row_unmet : {r : Outcome} → ((v : ℕ) → v < n → n < value_of (num ns v)) → r ≡ success → r ≡ first (loop_row chart ∷ [])
  unfolding loop_row
  row_unmet all e =
      e ∙ search_ended 19 (λ v l. let low : v < n = omega (arith, p.states) in reaching v low (all v low))
