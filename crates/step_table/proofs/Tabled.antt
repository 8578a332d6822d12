-- The rows of the table one after another, and the first that is enough.
use mathlib.Core.Path.{◌≡◌, refl, sym, ap, subst, ◌∙◌}
use mathlib.Core.Logic.{inl, by_cases}
use mathlib.Core.Bool.{Bool, true, false, cond}
use mathlib.Core.List.{List, Memᴰ}
use Prim.Native.Nat.{ℕ, suc, ◌+◌, ◌*◌, ◌≤◌, ◌<◌}
use native.Mathlib.Omega.{arith}
use native.Mathlib.Decide.{dec_le}
use native.Mathlib.Nat.{suc-mul, mul-le-mul_right}
use lib.ListN.{length}
use lib.Dec.{eqb, leb}
use borrow.Author.Tests.{le-leb, lt-leb, leb-true, leb-false}
use borrow.Author.Count.{below_more}
use Rattle.std.specs.Prelude.{Option, Some, None}
use Rattle.std.specs.Bool.{then_some}
use Rattle.base.specs.Entries.{Entries}
use Rattle.outcome.proofs.Lowest.{Least, lowest_some, lowest_none}
use Rattle.tctl.specs.Chart.{Arrow, states}
use Rattle.model.specs.Engine.{num}
use Rattle.model.specs.Marks.{flag}
use Rattle.chart.specs.Bytes.{chart_of}
use Rattle.chart.specs.Shape.{Passed}
use Rattle.chart.proofs.Reading.{has_states, drawn}
use Rattle.shown.specs.Steps.{Quest, best, by_step, enough}
use Rattle.shown.specs.Search.{fewest_steps}
use Rattle.shown.proofs.Best.{best_same, best_map}
use Rattle.step_numbers.specs.declared.Measure.{Measure}
use Rattle.step_numbers.specs.declared.Target.{Target}
use Rattle.step_numbers.specs.Target.{highest, worth_of, quest_for, Fair}
use Rattle.step_numbers.specs.Slots.{Slots}
use Rattle.step_numbers.specs.Stored.{live, stored_of, weight_of, settled_of}
use Rattle.step_numbers.proofs.Slots.{arrow_slots}
use Rattle.step_numbers.proofs.Storing.{stored_zero, stored_mono, stored_high, stored_le_iff, settled_zero, settled_mono, settled_sum}
use Rattle.step_table.specs.Table.{row_base, sums_by, row_next, RowLow, Tabled, Found}
use Rattle.step_table.proofs.Bounds.{step_low}

module _ (target : Target) (chart : List ℕ) {n m : ℕ} (p q : List ℕ) (passed : Passed chart n m) (fair : Fair target) where
  abbrev measure : Measure
  measure = target.measure

  abbrev z : Quest
  z = quest_for target (flag p) (flag q)

  abbrev steps : ℕ → ℕ → ℕ
  steps k s = by_step (chart_of chart).arrows z k s

  low : (k s : ℕ) → steps k s ≤ highest
  low k s = step_low fair (flag p) (flag q) (chart_of chart).arrows k s

  -- the numbers of a row are no higher than is asked for
  pub tabled_low :
      {k : ℕ} (table : List ℕ) → Tabled (chart_of chart) measure z n k table → (j s : ℕ) → j ≤ k → s < n →
      num table (j * n + s) ≤ live + highest
  tabled_low table rows j s l h = omega (arith, rows j s l h, stored_high measure (steps j s) (low j s))

  pub tabled_first :
      {old new : List ℕ} → Entries 0 n (row_base target p q) old new → Tabled (chart_of chart) measure z n 0 new
  unfolding by_step
  tabled_first {new = new} w j s l h =
      let e : 0 * n + s ≡ 0 + s = omega arith in
      let i : j ≡ 0 = omega arith in
      subst (λ j. num new (j * n + s) ≡ stored_of measure (steps j s)) (sym i) (ap (num new) e ∙ w.here s h)

  -- Settling grows and keeps 0, so it goes through the best sum; each sum then is the stored worth; and storing grows and
  -- keeps 0 too.
  next_best :
      Slots chart → (k : ℕ) (row : ℕ → ℕ) → ((e : ℕ) → e < n → row e ≡ stored_of measure (steps k e)) → (s : ℕ) →
      settled_of measure (best (sums_by measure row s) (chart_of chart).arrows) ≡
      stored_of measure
      (best (λ a. cond (eqb a.start s) (worth_of measure a (steps k a.end)) 0) (chart_of chart).arrows)
  next_best slots k row is s =
      best_map (settled_of measure) (settled_zero measure) (settled_mono measure) (sums_by measure row s) arrows ∙
      best_same (λ a. settled_of measure (sums_by measure row s a)) (λ a. stored_of measure (worths a)) arrows each ∙
      sym (best_map (stored_of measure) (stored_zero measure) (stored_mono measure) worths arrows)
    where
      arrows : List Arrow
      arrows = (chart_of chart).arrows

      worths : Arrow → ℕ
      worths a = cond (eqb a.start s) (worth_of measure a (steps k a.end)) 0

      chosen :
          (b : Bool) (x y : ℕ) → settled_of measure x ≡ stored_of measure y →
          settled_of measure (cond b x 0) ≡ stored_of measure (cond b y 0)
      chosen true x y e = e
      chosen false x y e = settled_zero measure ∙ sym (stored_zero measure)

      each : (a : Arrow) → Memᴰ a arrows → settled_of measure (sums_by measure row s a) ≡ stored_of measure (worths a)
      each a member =
          let below : a.end < states (chart_of chart) = (drawn passed).ends a member in
          let number = is a.end (omega (arith, below, has_states passed)) in
          let slot = arrow_slots chart slots a member in
          chosen (eqb a.start s) _ _
          (ap (λ v. settled_of measure (v + weight_of measure a)) number ∙
          settled_sum fair.capped a slot.0 slot.1 (steps k a.end) (low k a.end))

  next_number :
      Slots chart → (k : ℕ) (row : ℕ → ℕ) → ((e : ℕ) → e < n → row e ≡ stored_of measure (steps k e)) → (s : ℕ) →
      row_next target chart p q row s ≡ stored_of measure (steps (suc k) s)
  unfolding by_step
  next_number slots k row is s =
      turn (z.go s)
      (best (λ a. cond (eqb a.start s) (worth_of measure a (steps k a.end)) 0) (chart_of chart).arrows)
      (next_best slots k row is s)
    where
      turn : (b : Bool) {x : ℕ} (y : ℕ) → x ≡ stored_of measure y → cond b x 0 ≡ stored_of measure (cond b y 0)
      turn true y e = e
      turn false y e = sym (stored_zero measure)

  pub tabled_next :
      {k : ℕ} {old new : List ℕ} → Slots chart → Tabled (chart_of chart) measure z n k old →
      Entries (k * n + n) n (row_next target chart p q (λ e. num old (k * n + e))) old new →
      Tabled (chart_of chart) measure z n (k + 1) new
  tabled_next {k} {old} {new} slots rows w j s l h =
      by_cases (dec_le j k)
      (λ le.
      let below : j * n ≤ k * n = mul-le-mul_right n le in
      w.elsewhere (j * n + s) (inl (omega arith)) ∙ rows j s le h)
      (λ above.
      let last : j ≡ suc k = omega arith in
      let place : suc k * n + s ≡ k * n + n + s = ap (λ x. x + s) (suc-mul k n) in
      subst (λ j. num new (j * n + s) ≡ stored_of measure (steps j s)) (sym last)
      (ap (num new) place ∙ w.here s h ∙ next_number slots k (λ e. num old (k * n + e)) (λ e. rows k e (omega arith)) s))

  -- a row after row k lies in the table, and row k is no higher than is asked for
  pub tabled_room :
      {k : ℕ} (table : List ℕ) → Tabled (chart_of chart) measure z n k table → k < 256 → 257 * n ≤ length table →
      RowLow n (k * n) table
  tabled_room {k} table rows l room =
      let few : suc (suc k) * n ≤ 257 * n = mul-le-mul_right n (omega arith) in
      let two : suc (suc k) * n ≡ k * n + n + n = suc-mul (suc k) n ∙ ap (λ x. x + n) (suc-mul k n) in
      record { room = omega arith; low = λ e h. tabled_low table rows k e (omega arith) h }

  module _ (s : ℕ) (state : s < n) where
    -- what is compared in the table
    pub enough_not :
        {k : ℕ} (table : List ℕ) → Tabled (chart_of chart) measure z n k table →
        num table (k * n + s) < stored_of measure target.need → enough (chart_of chart).arrows z s k ≡ false
    enough_not {k} table rows l =
        let is = rows k s (omega arith) state in
        let less : steps k s < target.need =
        by_cases (dec_le target.need (steps k s))
        (λ h. absurd (let z : ⊥ = omega (arith, stored_mono measure target.need (steps k s) h) in z))
        (λ h. omega arith) in
        lt-leb target.need (steps k s) less

    enough_yes :
        {k : ℕ} (table : List ℕ) → Tabled (chart_of chart) measure z n k table →
        stored_of measure target.need ≤ num table (k * n + s) → enough (chart_of chart).arrows z s k ≡ true
    enough_yes {k} table rows l =
        le-leb target.need (steps k s)
        ((stored_le_iff measure target.need (steps k s) fair.some).0 (omega (arith, rows k s (omega arith) state)))

    -- the first row that is enough
    pub found_first :
        {k : ℕ} (table : List ℕ) → Slots chart → k ≤ 256 → Tabled (chart_of chart) measure z n k table →
        stored_of measure target.need ≤ num table (k * n + s) →
        ((j : ℕ) → j < k → enough (chart_of chart).arrows z s j ≡ false) → Found target chart n p q s (Some k) table
    unfolding fewest_steps
    found_first {k} table slots few rows l under =
        let least : Least (enough (chart_of chart).arrows z s) 257 k =
        record { inside = omega arith; offends = enough_yes table rows l; under = under } in
        record {
          answer = lowest_some (enough (chart_of chart).arrows z s) least;
          most = few;
          slots = slots;
          rows = rows;
        }

    -- no row up to the last is enough
    found_none :
        (table : List ℕ) → Slots chart → ((j : ℕ) → j < 257 → enough (chart_of chart).arrows z s j ≡ false) →
        Found target chart n p q s None table
    unfolding fewest_steps
    found_none table slots none_is =
        record {
          answer = lowest_none (enough (chart_of chart).arrows z s) 257 none_is;
          most = tt;
          slots = slots;
          rows = tt;
        }

    -- The last row is enough, or none is.
    pub found_last :
        {k : ℕ} (table : List ℕ) → Slots chart → k ≡ 256 → Tabled (chart_of chart) measure z n k table →
        ((j : ℕ) → j < k → enough (chart_of chart).arrows z s j ≡ false) →
        (need : ℕ) → need ≡ stored_of measure target.need → {r : Option ℕ} →
        r ≡ then_some (leb need (num table (256 * n + s))) 256 → Found target chart n p q s r table
    found_last {k} table slots last rows under need is {r} e =
        subst (λ r. Found target chart n p q s r table) (sym e) (turn (leb need there) refl)
      where
        there : ℕ
        there = num table (256 * n + s)

        row : Tabled (chart_of chart) measure z n 256 table
        row = subst (λ k. Tabled (chart_of chart) measure z n k table) last rows

        before : (j : ℕ) → j < 256 → enough (chart_of chart).arrows z s j ≡ false
        before j l = under j (omega arith)

        turn : (b : Bool) → leb need there ≡ b → Found target chart n p q s (then_some b 256) table
        turn true l =
            found_first table slots (omega arith) row (omega (arith, leb-true need there l)) before
        turn false l =
            found_none table slots
            (below_more _ 256 before (enough_not table row (omega (arith, leb-false need there l))))
