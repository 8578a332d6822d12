-- The run by steps: the target is fair, and the walk down the rows that were found is the model's.
use mathlib.Core.Path.{◌≡◌, ap, subst}
use mathlib.Core.List.{List}
use Rattle.std.specs.Prelude.{None, Some}
use Prim.Native.Nat.{ℕ, suc, ◌+◌, ◌*◌, ◌≤◌, ◌<◌, ◌/◌, ◌%◌}
use native.Mathlib.Omega.{arith}
use native.Mathlib.Nat.{div-add-mod', mod-lt, div-lt_iff_lt-mul, mul-le-mul_right}
use lib.ListN.{length}
use lib.Dec.{eqb}
use borrow.Author.Tests.{leb-true}
use Rattle.base.proofs.Truth.{cond_elim}
use Rattle.tctl.specs.Chart.{Arrow, Most, up_to, no_end}
use Rattle.model.specs.Engine.{num}
use Rattle.model.specs.Marks.{flag}
use Rattle.append.specs.Piece.{Appended}
use Rattle.append.proofs.Append.{appended_text}
use Rattle.outcome.proofs.Lowest.{some_lowest}
use Rattle.chart.specs.Bytes.{chart_of}
use Rattle.rule.specs.declared.NodeWords.{NodeWords}
use Rattle.shown.specs.Shown.{duration_at}
use Rattle.shown.specs.Steps.{Quest, by_step, walk, enough}
use Rattle.shown.specs.Search.{by_steps, fewest_steps}
use Rattle.shown.proofs.Walks.{SlotUpTo, longest_brief, walk_brief}
use Rattle.step_numbers.specs.declared.Measure.{Measure}
use Rattle.step_numbers.specs.declared.Target.{Target}
use Rattle.step_numbers.specs.Target.{highest, pick_of, quest_for, Capped, least, greatest, Fair}
use Rattle.step_numbers.specs.Stored.{live, heft}
use Rattle.step_numbers.proofs.Slots.{arrow_slots}
use Rattle.step_table.specs.Table.{TableReady, Found}
use Rattle.step_table.proofs.Tabled.{tabled_low}
use Rattle.run_walk.specs.RunBytes.{run_bytes}
use Rattle.run_walk.specs.Walk.{walk_on, Walkable}
use Rattle.run_walk.proofs.Walk.{walk_on_lem}
use Rattle.show_run.specs.Run.{soon_target, long_target, late_target, target_of, Ran}
use Rattle.show_run.proofs.Found.{none_found, too_long, walked}

pub fair_target : (w : NodeWords) → w.c < 65536 → Fair (target_of w)
fair_target w l =
    cond_elim Fair (eqb w.operation 6) (λ e. late) (λ e. cond_elim Fair (eqb w.kind 1) (λ e. soon) (λ e. long))
  where
    soon : Fair (soon_target w.c)
    soon = record { capped = least; full = omega arith; some = omega arith; need = omega arith }

    long : Fair (long_target w.c)
    long =
        record {
          capped = greatest {cap = suc w.c} (omega arith) (omega arith);
          full = omega arith;
          some = omega arith;
          need = omega arith;
        }

    late : Fair (late_target w.c)
    late =
        record {
          capped = greatest {cap = suc (suc w.c)} (omega arith) (omega arith);
          full = omega arith;
          some = omega arith;
          need = omega arith;
        }

-- ── Durations ──

-- a slot in range is of no more minutes than are asked for, but for one with no end
in_slot :
    (start end fewest : ℕ) (most : Most) → (fewest ≤ 65535) × (heft most ≤ 65537) →
    SlotUpTo highest (record { start = start; end = end; fewest = fewest; most = most })
in_slot start end fewest (up_to m) h = (omega (arith, h.0), h.1)
in_slot start end fewest no_end h = (omega (arith, h.0), tt)

pick_brief : {measure : Measure} → Capped measure → (a : Arrow) → SlotUpTo highest a → pick_of measure a ≤ highest
pick_brief least a slot = slot.0
pick_brief (greatest {cap} one low) a slot = longest_brief cap a.fewest a.most low slot.0 slot.1

module _
    {target : Target}
    {chart : List ℕ}
    {n m : ℕ}
    {p q : List ℕ}
    {s : ℕ}
    {table : List ℕ}
    (h : TableReady target chart n m p q s table) where
  abbrev z : Quest
  z = quest_for target (flag p) (flag q)

  abbrev arrows : List Arrow
  arrows = (chart_of chart).arrows

  pub steps_none :
      {new old : List ℕ} → Found target chart n p q s None new →
      Ran chart (by_steps (quest_for target (flag p) (flag q))) s None old old
  steps_none f = none_found chart (by_steps z) s f.answer

  module _ {k : ℕ} {new : List ℕ} (f : Found target chart n p q s (Some k) new) where
    pub steps_long :
        {old : List ℕ} → length old < 6 * (k + 1) →
        Ran chart (by_steps (quest_for target (flag p) (flag q))) s None old old
    steps_long = too_long chart (by_steps z) s f.answer

    -- what is enough is not 0
    some_way : 1 ≤ by_step arrows z k s
    unfolding fewest_steps
    some_way =
        let passes = (some_lowest (enough arrows z s) 257 k f.answer).offends in
        omega (arith, leb-true z.need (by_step arrows z k s) passes, h.fair.some)

    brief : (i : ℕ) → duration_at (walk arrows z k s) i ≤ highest
    brief i =
        walk_brief z
        (λ a j. in_slot a.start a.end a.fewest a.most (arrow_slots chart f.slots a j))
        (pick_brief h.fair.capped) k s i

    module _ {old : List ℕ} (i : 6 * (k + 1) ≤ length old) where
      -- a place of rows 0 to k is one of a row
      pub walkable : length new ≡ length table → Walkable target.measure chart n m k s new old
      walkable e =
          let all : suc k * n ≤ 257 * n = mul-le-mul_right n (omega (arith, f.most)) in
          record {
            passed = h.passed;
            capped = h.fair.capped;
            state = h.state;
            rows = omega (arith, all, h.room);
            low = λ j v.
                let at = div-add-mod' j n in
                let some : 0 < n = omega (arith, h.state) in
                let row = (div-lt_iff_lt-mul some).1 v in
                subst (λ x. num new x ≤ live + highest) at
                (tabled_low target chart p q h.passed h.fair new f.rows (j / n) (j % n) (omega arith)
                (mod-lt j some));
            room = omega arith;
          }

      pub steps_walked :
          {r : ℕ} {out : List ℕ} → Appended 0 (run_bytes (walk_on target.measure chart n new k s)) r old out →
          Ran chart (by_steps (quest_for target (flag p) (flag q))) s (Some r) old out
      steps_walked a =
          let same : walk_on target.measure chart n new k s ≡ walk arrows z k s =
          walk_on_lem target (flag p) (flag q) h.passed h.fair f.slots new k s f.rows some_way h.state in
          walked chart (by_steps z) s f.answer i brief (appended_text (ap run_bytes same) a)
