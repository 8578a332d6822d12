-- The table by parts: the rows of the chart, of the rule, 63, those of the room lent, then 19.
use mathlib.Core.Path.{◌≡◌, refl, sym, ap, subst, ◌∙◌}
use mathlib.Core.Logic.Iff
use mathlib.Core.Logic.{◌⊎◌, ◌↔◌}
use mathlib.Core.Bool.{Bool, true, false, false≢true}
use mathlib.Core.Bool.{not as neg}
use mathlib.Core.List.{List, [], ◌∷◌, ◌++◌}
use Prim.Native.Nat.{ℕ, ◌*◌, ◌≤◌}
use native.Mathlib.Omega.{arith}
use lib.ListN.{length}
use lib.Dec.{eqb}
use borrow.Author.Tests.{ltb-false, le-ltb, eq-eqb}
use Rattle.base.proofs.Truth.{not_iff}
use Rattle.outcome.specs.declared.Outcome.{Outcome}
use Rattle.outcome.specs.Refusal.{Row, whole, first}
use Rattle.outcome.proofs.Whole.{whole_none}
use Rattle.outcome.specs.Met.{Unmet, end}
use Rattle.outcome.proofs.First.{Numbered, alone, part_zero, part_refuses, part_passes, zero_iff}
use Rattle.outcome.proofs.Unmet.{unmet_more, unmet_row, unmet_append_iff}
use Rattle.outcome.proofs.Lowest.{none_below, lowest_none}
use Rattle.outcome.proofs.Bounded.{each, number_each}
use Rattle.chart.specs.Bytes.{state_count}
use Rattle.chart.specs.Refusals.{chart_table, chart_refusal}
use Rattle.rule.specs.Bytes.{node_count, node_words}
use Rattle.rule.specs.Refusals.{rule_table, rule_refusal, minutely, long_bound, ShortBounds, bound_row}
use Rattle.rule.proofs.Accepted.{accepted}
use Rattle.loops.specs.Accepted.{AcceptedChart}
use Rattle.loops.specs.Refusal.{loop_row, accepted_table}
use Rattle.loops.proofs.Accepted.{unmet_iff}
use Rattle.room.specs.Room.{size_for, room_table}
use Rattle.judge.specs.Judge.{size_of, own_rows, judge_table, judge_refusal}
use Rattle.judge.specs.Judged.{input_table}

module _ (rule : List ℕ) {b : Outcome} (f : b ≡ rule_refusal rule) (w : b.number ≡ 0) where
  pub rule_whole : 7 ≤ length rule
  rule_whole = omega (arith, (accepted rule (part_zero (rule_table rule) f w)).shape.whole)

  pub rule_small : node_count rule ≤ 64
  rule_small = (accepted rule (part_zero (rule_table rule) f w)).shape.few_nodes

-- what rows 1 to 18, and 63, leave when none of them is met
pub record Admitted (counting : Bool) (chart rule marks scratch : List ℕ) : Type 0 where
  pub of_chart : (chart_refusal chart).number ≡ 0
  pub of_rule : (rule_refusal rule).number ≡ 0
  pub short : counting ≡ true → ShortBounds rule
  pub table : node_count rule * state_count chart ≤ length marks
  pub room : size_of counting chart rule ≤ length scratch

-- row 63 is not met where no bound is above 255
pub own_iff :
    (counting : Bool) (rule : List ℕ) →
    Unmet (own_rows counting rule) ↔
    (counting ≡ true → ShortBounds rule)
unfolding bound_row
own_iff true rule =
    let long : ℕ → Bool = λ t. long_bound (node_words rule t) in (
      λ u e t l. ltb-false _ _ (none_below long (node_count rule) (unmet_row u).0 t l),
      λ h. unmet_more (lowest_none long (node_count rule) (λ t l. le-ltb _ _ (h refl t l))) end,
    )
own_iff false rule = (λ u e. absurd (false≢true e), λ h. end)

-- ── The rows' numbers: none is 0, and only the last is 19 ──

module _ (chart rule marks scratch : List ℕ) where
  forms_numbered : (counting : Bool) → Numbered (chart_table chart ++ rule_table rule ++ own_rows counting rule)
  unfolding chart_table rule_table bound_row
  forms_numbered true = tt
  forms_numbered false = tt

  input_numbered : (counting : Bool) → Numbered (input_table counting chart rule marks scratch)
  unfolding chart_table rule_table bound_row
  input_numbered true = tt
  input_numbered false = tt

  pub judge_numbered : (counting : Bool) → Numbered (judge_table counting chart rule marks scratch)
  unfolding judge_table chart_table rule_table bound_row loop_row
  judge_numbered true = tt
  judge_numbered false = tt

  input_each : (counting : Bool) → each (λ x. neg (eqb x 19)) (input_table counting chart rule marks scratch) ≡ true
  unfolding chart_table rule_table bound_row
  input_each true = refl
  input_each false = refl

module _ (counting : Bool) (chart rule marks scratch : List ℕ) where
  abbrev formats : List Row
  formats = chart_table chart ++ rule_table rule

  abbrev own : List Row
  own = own_rows counting rule

  abbrev rooms : List Row
  rooms = room_table (state_count chart) (node_count rule) (size_of counting chart rule) marks scratch

  abbrev inputs : List Row
  inputs = input_table counting chart rule marks scratch

  -- ── Rows 1 to 18, and 63 ──

  module _ {a : Outcome} (e : a ≡ chart_refusal chart) where
    pub chart_refuses : ¬ (a.number ≡ 0) → a ≡ first inputs
    chart_refuses h =
        part_refuses (formats ++ own) rooms
        (part_refuses formats own (part_refuses (chart_table chart) (rule_table rule) e h) h) h

    module _ (z : a.number ≡ 0) {b : Outcome} (f : b ≡ rule_refusal rule) where
      both : b ≡ first formats
      unfolding chart_table
      both = part_passes (chart_table chart) (rule_table rule) tt e z f

      pub rule_refuses : ¬ (b.number ≡ 0) → b ≡ first inputs
      rule_refuses h = part_refuses (formats ++ own) rooms (part_refuses formats own both h) h

      module _ (w : b.number ≡ 0) {c : Outcome} (g : c ≡ first own) where
        all_three : c ≡ first (formats ++ own)
        unfolding chart_table rule_table
        all_three = part_passes formats own tt both w g

        pub own_refuses : ¬ (c.number ≡ 0) → c ≡ first inputs
        own_refuses h = part_refuses (formats ++ own) rooms all_three h

        pub room_next :
            c.number ≡ 0 → {n k size : ℕ} → n ≡ state_count chart → k ≡ node_count rule → size ≡ size_for (minutely counting rule) n →
            {r : Outcome} → r ≡ first (room_table n k size marks scratch) → r ≡ first inputs
        room_next v {n} {k} {size} en ek es {r} i =
            let asked = es ∙ ap (size_for (minutely counting rule)) en in
            let rooms_are : r ≡ first (room_table (state_count chart) (node_count rule) size marks scratch) =
            subst (λ x. r ≡ first (room_table x (node_count rule) size marks scratch)) en
            (subst (λ x. r ≡ first (room_table n x size marks scratch)) ek i) in
            part_passes (formats ++ own) rooms (forms_numbered chart rule marks scratch counting) all_three v
            (subst (λ x. r ≡ first (room_table (state_count chart) (node_count rule) x marks scratch)) asked rooms_are)

  -- ── Which rows are met, part by part ──

  -- none of these rows is met just where none of the chart's is, none of the rule's, no bound is too long, and there is room
  pub input_iff :
      Unmet inputs ↔ (((Unmet (chart_table chart) × Unmet (rule_table rule)) × Unmet own) × Unmet rooms)
  input_iff =
      Iff.trans (unmet_append_iff (formats ++ own) rooms)
      (Iff.and
      (Iff.trans (unmet_append_iff formats own)
      (Iff.and (unmet_append_iff (chart_table chart) (rule_table rule)) Iff.rfl)) Iff.rfl)

  -- none of all rows is met just where none of these is, and row 19 is not
  pub judge_iff :
      Unmet (judge_table counting chart rule marks scratch) ↔ (Unmet inputs × Unmet (loop_row chart ∷ []))
  unfolding judge_table
  judge_iff = unmet_append_iff inputs (loop_row chart ∷ [])

  pub room_iff :
      Unmet rooms ↔
      ((node_count rule * state_count chart ≤ length marks) × (size_of counting chart rule ≤ length scratch))
  room_iff = (
    λ u.
        let table = unmet_row u in
        (ltb-false _ _ (whole_none _ table.0), ltb-false _ _ (whole_none _ (unmet_row table.1).0)),
    λ h. unmet_more (ap whole (le-ltb _ _ h.0)) (unmet_more (ap whole (le-ltb _ _ h.1)) end),
  )

  admitted : Unmet inputs → Admitted counting chart rule marks scratch
  unfolding chart_table rule_table
  admitted u =
      let parts = input_iff.0 u in
      let room = room_iff.0 parts.1 in
      record {
        of_chart = (zero_iff (chart_table chart) tt).1 parts.0.0.0;
        of_rule = (zero_iff (rule_table rule) tt).1 parts.0.0.1;
        short = (own_iff counting rule).0 parts.0.1;
        table = room.0;
        room = room.1;
      }

  -- ── Row 19 after them ──

  module _ {r : Outcome} (e : r ≡ first inputs) where
    pub input_refuses : ¬ (r.number ≡ 0) → r ≡ judge_refusal counting chart rule marks scratch
    unfolding judge_table
    input_refuses = part_refuses inputs (loop_row chart ∷ []) e

    pub input_other : ¬ (r.number ≡ 19)
    input_other w =
        let other = number_each (λ x. neg (eqb x 19)) inputs refl (input_each chart rule marks scratch counting) in
        (not_iff (eqb (first inputs).number 19)).0 other (eq-eqb _ _ (sym (ap (λ (o : Outcome). o.number) e) ∙ w))

    module _ (z : r.number ≡ 0) where
      pub loop_next :
          {x : Outcome} → x ≡ first (loop_row chart ∷ []) → x ≡ judge_refusal counting chart rule marks scratch
      unfolding judge_table
      loop_next = part_passes inputs (loop_row chart ∷ []) (input_numbered chart rule marks scratch counting) e z

      pub input_passes : Admitted counting chart rule marks scratch
      input_passes = admitted ((zero_iff inputs (input_numbered chart rule marks scratch counting)).0 (part_zero inputs e z))

pub loop_number :
    (chart : List ℕ) → ((first (loop_row chart ∷ [])).number ≡ 0) ⊎ ((first (loop_row chart ∷ [])).number ≡ 19)
unfolding loop_row
loop_number chart = alone 19 _

-- the rows of the chart and row 19 ask that the chart be accepted
pub chart_iff : (chart : List ℕ) → (Unmet (chart_table chart) × Unmet (loop_row chart ∷ [])) ↔ AcceptedChart chart
unfolding accepted_table
chart_iff chart = Iff.trans (Iff.symm (unmet_append_iff (chart_table chart) (loop_row chart ∷ []))) (unmet_iff chart)
