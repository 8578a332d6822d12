-- The words that were collected, as arrows of the chart from where the first operand holds.
use mathlib.Core.Path.{◌≡◌, refl, sym, subst, ◌∙◌}
use mathlib.Core.Logic.{inl, inr}
use mathlib.Core.List.{List}
use mathlib.Core.Bool.{Bool, true, false}
use Prim.Native.Nat.{ℕ, suc, ◌-◌, ◌≤◌, ◌<◌}
use native.Mathlib.Omega.{arith}
use Rattle.tctl.specs.Chart.{Arrow, Most, up_to, no_end, Within}
use Rattle.model.specs.Engine.{num}
use Rattle.model.specs.Marks.{flag}
use Rattle.chart.specs.Bytes.{arrow_words, arrow_of, chart_of}
use Rattle.chart.proofs.Chart.{arrow_mem}
use Rattle.chart.proofs.Reading.{arrow_ends}
use Rattle.shown.specs.Exact.{Takes, reaches}
use Rattle.shown.proofs.Fewest.{step_before}
use Rattle.moves.specs.declared.Ends.{Ends}
use Rattle.moves.specs.Moves.{capped_most, capped, move_of, is_open, HasWord}
use Rattle.exact_table.specs.Rows.{Word, Words, RowReady}
use Rattle.exact_table.specs.Lowered.{Extends}

-- ── Capped minutes ──

within_capped : (n : Most) (d : ℕ) → d < 256 → Within d n → d ≤ capped_most n
within_capped (up_to g) d l h = omega arith
within_capped no_end d l h = omega arith

capped_within : (n : Most) (d : ℕ) → d < 256 → d ≤ capped_most n → Within d n
capped_within (up_to g) d l h = omega arith
capped_within no_end d l h = tt

-- below 256 minutes the capped slot is the slot
pub takes_capped : {a : Arrow} {m d : ℕ} → m < 256 → Takes a m d → Takes (capped a) m d
takes_capped {a} {m} {d} l t =
    record {
      inside = t.inside;
      least = omega (arith, t.least);
      greatest = within_capped a.most d (omega (arith, t.inside)) t.greatest;
    }

capped_takes : (a : Arrow) {m d : ℕ} → m < 256 → Takes (capped a) m d → Takes a m d
capped_takes a {m} {d} l t =
    record {
      inside = t.inside;
      least = omega (arith, t.least, t.inside);
      greatest = capped_within a.most d (omega (arith, t.inside)) t.greatest;
    }

-- while q is not asked, it is open where p holds
pub open_iff : (p q : Bool) → is_open false p q ≡ p
open_iff true q = refl
open_iff false q = refl

module _
    {chart : List ℕ}
    {n minute : ℕ}
    {ends : Ends}
    {words p q table : List ℕ}
    (ready : RowReady chart n minute ends words p q table) where
  -- what is asked of a word is so of its arrow
  held_word :
      (longest : ℕ) → longest ≤ minute → (i : ℕ) → HasWord ends i → Word n longest minute (move_of (num words i)) table
  held_word longest short i h =
      let c = ready.collected.some i h in
      let ok = arrow_ends ready.passed c.0 c.1 in
      subst (λ b. Word n longest minute b table) (sym c.3)
      (record { start = ok.0; end = ok.1; short = short; few = ready.few; room = ready.row.room })

  pub front_words : (longest : ℕ) → longest ≤ minute → Words n longest minute 0 ends.front words table
  front_words longest short =
      let c = ready.collected in
      record {
        order = omega arith;
        inside = omega (arith, c.front, c.back, ready.long);
        arrows = λ i l h. held_word longest short i (inl h);
      }

  pub back_words : (longest : ℕ) → longest ≤ minute → Words n longest minute ends.back 2048 words table
  back_words longest short =
      record {
        order = ready.collected.back;
        inside = omega (arith, ready.long);
        arrows = λ i l h. held_word longest short i (inr (l, h));
      }

  -- a step by the arrow of a word is one of the chart, from where p holds
  held_extends :
      (i : ℕ) → HasWord ends i → (k d : ℕ) → let a = move_of (num words i) in
      let way = reaches (chart_of chart).arrows (flag p) (flag q) in
      Takes a minute d → way k (minute - d) a.end ≡ true → way (suc k) minute a.start ≡ true
  held_extends i h k d =
      let c = ready.collected.some i h in
      let a = arrow_of (arrow_words chart c.0) in
      let way = reaches (chart_of chart).arrows (flag p) (flag q) in
      let goes = sym (open_iff (flag p a.start) (flag q a.start)) ∙ c.2 in
      let here : Takes (capped a) minute d → way k (minute - d) a.end ≡ true → way (suc k) minute a.start ≡ true =
      λ t.
      step_before (chart_of chart).arrows (flag p) (flag q) (arrow_mem chart c.0 c.1) goes
      (capped_takes a ready.few t) k in
      subst (λ b. Takes b minute d → way k (minute - d) b.end ≡ true → way (suc k) minute b.start ≡ true)
      (sym c.3) here

  pub front_extends :
      Extends (reaches (chart_of chart).arrows (flag p) (flag q)) minute 0 ends.front words
  front_extends i l h = held_extends i (inl h)

  pub back_extends : Extends (reaches (chart_of chart).arrows (flag p) (flag q)) minute ends.back 2048 words
  back_extends i l h = held_extends i (inr (l, h))
