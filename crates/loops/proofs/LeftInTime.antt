-- Where every state is left by an arrow with most above 0, every state has a run, a minute or more in each step; so each
-- reaches a loop on which time can pass, and row 19 is not met.
use mathlib.Core.Path.{◌≡◌, refl, sym, subst, ap, ◌∙◌}
use mathlib.Core.Bool.{false}
use mathlib.Core.List.{List, [], ◌∷◌}
use Prim.Native.Nat.{ℕ, zero, suc, ◌+◌, ◌≤◌, ◌<◌}
use native.Mathlib.Omega.{arith}
use lib.ListN.{length, set}
use lib.Seq.{get_or-set_same}
use borrow.Author.Count.{below_none, below_more}
use Rattle.base.specs.Sum.{sum}
use Rattle.base.proofs.Sum.{sum_suc}
use Rattle.tctl.specs.Chart.{Chart, states}
use Rattle.tctl.specs.Run.{Step}
use Rattle.tctl.specs.Accepted.{AboveZero, ReachesTimedLoop}
use Rattle.tctl.proofs.Drawn.{Drawn}
use Rattle.tctl.proofs.Path.{step_cast}
use Rattle.tctl.proofs.Run.{paces, unroll, State, onward}
use Rattle.tctl.proofs.Lively.{timed_step}
use Rattle.model.proofs.TicksAhead.{run_iff}
use Rattle.model.specs.Engine.{num}
use Rattle.model.proofs.Numbers.{set_elim}
use Rattle.model.specs.TimedLoop.{no_timed_loop}
use Rattle.model.proofs.TimedLoop.{no_timed_loop_iff}
use Rattle.outcome.specs.declared.Outcome.{Outcome}
use Rattle.outcome.specs.Refusal.{success, first}
use Rattle.outcome.proofs.Search.{search_ended}
use Rattle.chart.specs.Bytes.{state_count, arrow_count, arrow_words, most_of, arrow_of, chart_of}
use Rattle.chart.specs.Shape.{Passed}
use Rattle.chart.proofs.Chart.{arrow_mem, arrow_of_lem}
use Rattle.chart.proofs.Most.{most_elim}
use Rattle.chart.proofs.Reading.{has_states, drawn}
use Rattle.loops.specs.Refusal.{loop_row}
use Rattle.loops.specs.LeftInTime.{LeftInTime, TimedUnlessZero}

module _ {G : Chart} (dr : Drawn G) (left : (s : ℕ) → s < states G → LeftInTime G s) where
  leave : (s : ℕ) → s < states G → (t : ℕ) × (d : ℕ) × Step G s d t
  leave s l =
      let w = left s l in
      let step = timed_step dr w.arrow w.drawn w.timed in
      (w.arrow.end, step.0, step_cast (sym w.leaves) refl step.2)

  abbrev minutes : State dr leave → ℕ → ℕ
  minutes x = paces {G = G} {S = State dr leave} (λ x. x.0) (onward dr leave) x

  -- i steps take i minutes at least
  lasting : (x : State dr leave) (i : ℕ) → i ≤ sum (minutes x) i
  unfolding sum leave
  lasting x zero = omega arith
  lasting x (suc i) =
      let w = left x.0 x.1 in
      let long = (timed_step dr w.arrow w.drawn w.timed).1 in
      omega (arith, lasting (onward dr leave x).0 i, long, sum_suc (minutes x) i)

  -- so a run starts at each state, which then reaches a loop on which time can pass
  left_reaches : (s : ℕ) → s < states G → ReachesTimedLoop G s
  left_reaches s l =
      (run_iff dr s l).1
      (unroll {S = State dr leave} (λ x. x.0) (onward dr leave) (s, l)
      (λ c. (suc c, omega (arith, lasting (s, l) (suc c)))))

-- ── Numbers that say so ──

-- the arrows before i are noted: only the starts of arrows with most above 0 have a number other than 0, and all of theirs do
pub record Noted (chart : List ℕ) (i : ℕ) (ns : List ℕ) : Type 0 where
  pub only : (s : ℕ) → ¬ (num ns s ≡ 0) → LeftInTime (chart_of chart) s
  pub all : (j : ℕ) → j < i → ¬ ((arrow_words chart j).most ≡ 0) → ¬ (num ns (arrow_words chart j).start ≡ 0)

module _ (chart ns : List ℕ) where
  pub noted_none : ((s : ℕ) → num ns s ≡ 0) → Noted chart 0 ns
  noted_none zeros = record { only = λ s h. absurd (h (zeros s)); all = below_none _ }

  -- arrow i has most 0
  pub noted_still : {i : ℕ} → Noted chart i ns → (arrow_words chart i).most ≡ 0 → Noted chart (i + 1) ns
  noted_still {i} w e =
      record {
        only = w.only;
        all =
            below_more (λ j. ¬ ((arrow_words chart j).most ≡ 0) → ¬ (num ns (arrow_words chart j).start ≡ 0)) i w.all
            (λ h. absurd (h e));
      }

  -- arrow i has most above 0, and the number of its start becomes v
  pub noted_more :
      {i v : ℕ} → Noted chart i ns → i < arrow_count chart → (arrow_words chart i).start < length ns →
      ¬ ((arrow_words chart i).most ≡ 0) → ¬ (v ≡ 0) → Noted chart (i + 1) (set ns (arrow_words chart i).start v)
  noted_more {i} {v} w l inside h some =
      let words = arrow_words chart i in
      let new = set ns words.start v in
      let one : LeftInTime (chart_of chart) words.start =
      record {
        arrow = arrow_of words;
        drawn = arrow_mem chart i l;
        leaves = refl;
        timed = most_elim AboveZero tt (λ k. omega arith) words.most h;
      } in
      let kept = set_elim (λ s x. ¬ (num ns s ≡ 0) → ¬ (x ≡ 0)) ns words.start v (λ z. some) (λ s z. z) in
      let here : ¬ (num new words.start ≡ 0) = λ e. some (sym (get_or-set_same ns words.start v 0 inside) ∙ e) in
      record {
        only = set_elim (λ s x. ¬ (x ≡ 0) → LeftInTime (chart_of chart) s) ns words.start v (λ z. one) w.only;
        all =
            below_more (λ j. ¬ ((arrow_words chart j).most ≡ 0) → ¬ (num new (arrow_words chart j).start ≡ 0)) i
            (λ j k z. kept (arrow_words chart j).start (w.all j k z)) (λ z. here);
      }

  -- an arrow of the chart is one of those noted, and if its most is above 0 its word is not 0
  pub noted_timed : Noted chart (arrow_count chart) ns → TimedUnlessZero (chart_of chart) ns
  noted_timed w s = (w.only s, back)
    where
      back : LeftInTime (chart_of chart) s → ¬ (num ns s ≡ 0)
      back x =
          let j = arrow_of_lem chart x.arrow x.drawn in
          let starts = sym (ap (λ a. a.start) j.2) ∙ x.leaves in
          let above = subst (λ a. AboveZero a.most) j.2 x.timed in
          subst (λ u. ¬ (num ns u ≡ 0)) starts
          (w.all j.0 j.1 (λ e. omega (arith, subst (λ k. AboveZero (most_of k)) e above)))

-- ── Row 19 where no number is 0 ──

pub left_unmet :
    {chart : List ℕ} {n m : ℕ} → Passed chart n m → (ns : List ℕ) → length ns ≡ n → TimedUnlessZero (chart_of chart) ns →
    ((s : ℕ) → s < length ns → ¬ (num ns s ≡ 0)) → {r : Outcome} → r ≡ success → r ≡ first (loop_row chart ∷ [])
unfolding loop_row
left_unmet {chart} p ns size timed none e = e ∙ search_ended 19 reaches
  where
    left : (s : ℕ) → s < states (chart_of chart) → LeftInTime (chart_of chart) s
    left s l = (timed s).0 (none s (omega (arith, has_states p)))

    reaches : (s : ℕ) → s < state_count chart → no_timed_loop (chart_of chart) s ≡ false
    reaches s l =
        (no_timed_loop_iff (drawn p) s).1 (left_reaches (drawn p) left s (omega (arith, has_states p, p.states)))
