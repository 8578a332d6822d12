-- The words that were collected, as arrows of the chart.
use mathlib.Core.Path.{◌≡◌, sym, subst, ◌∙◌}
use mathlib.Core.Logic.{inl, inr}
use mathlib.Core.List.{List, Memᴰ}
use mathlib.Core.Bool.{true}
use Prim.Native.Nat.{ℕ, suc, ◌≤◌, ◌<◌, min}
use native.Mathlib.Omega.{arith}
use Rattle.base.proofs.Tabulate.{mem_tabulate}
use Rattle.tctl.specs.Chart.{Arrow, Most, up_to, no_end, Within}
use Rattle.model.specs.Engine.{num}
use Rattle.chart.specs.Bytes.{arrow_count, arrow_words, arrow_of, chart_of}
use Rattle.chart.proofs.Reading.{drawn, has_states}
use Rattle.minutes.specs.Makes.{goes_at}
use Rattle.moves.specs.declared.Ends.{Ends}
use Rattle.moves.specs.Moves.{capped_most, capped, move_of, HasWord}
use Rattle.minute_rows.specs.declared.Asked.{Asked}
use Rattle.minute_rows.specs.Numbers.{task_in}
use Rattle.minute_rows.specs.Filled.{Word, Words, MinuteReady, FromChart}
use Rattle.minute_rows.proofs.Tasks.{goes_in}

slot_capped : (f : ℕ) (n : Most) → Within f n → min 256 f ≤ capped_most n
slot_capped f (up_to g) h = omega arith
slot_capped f no_end h = omega arith

arrow_in :
    (chart : List ℕ) (j : ℕ) → j < arrow_count chart →
    Memᴰ (arrow_of (arrow_words chart j)) (chart_of chart).arrows
unfolding chart_of
arrow_in chart j l = mem_tabulate (arrow_count chart) (λ j. arrow_of (arrow_words chart j)) j l

module _
    {asked : Asked}
    {chart : List ℕ}
    {n minute : ℕ}
    {ends : Ends}
    {words p q beyond numbers : List ℕ}
    (ready : MinuteReady asked chart n minute ends words p q beyond numbers) where
  -- what is asked of a word is so of its arrow
  pub held_word : (i : ℕ) → HasWord ends i → Word n minute (move_of (num words i)) beyond numbers
  held_word i h =
      let c = ready.collected.some i h in
      let a = arrow_of (arrow_words chart c.0) in
      let k = arrow_in chart c.0 c.1 in
      let dr = drawn ready.passed in
      let count = has_states ready.passed in
      let rows = ready.rows in
      subst (λ b. Word n minute b beyond numbers) (sym c.3)
      (record {
        start = omega (arith, dr.starts a k);
        end = omega (arith, dr.ends a k);
        slot = slot_capped a.fewest a.most (dr.slots a k);
        wide = rows.wide;
        room = rows.room;
        few = rows.few;
      })

  pub front_words : Words n minute 0 ends.front words beyond numbers
  front_words =
      let c = ready.collected in
      record {
        order = omega arith;
        inside = omega (arith, c.front, c.back, ready.long);
        arrows = λ i l h. held_word i (inl h);
      }

  pub back_words : Words n minute ends.back 2048 words beyond numbers
  back_words =
      record {
        order = ready.collected.back;
        inside = omega (arith, ready.long);
        arrows = λ i l h. held_word i (inr (l, h));
      }

  held_chart :
      (i : ℕ) → HasWord ends i →
      (a : Arrow) × Memᴰ a (chart_of chart).arrows ×
      (goes_at (task_in asked p q beyond) (suc minute) a.start ≡ true) × (move_of (num words i) ≡ capped a)
  held_chart i h =
      let c = ready.collected.some i h in
      let a = arrow_of (arrow_words chart c.0) in
      (a, arrow_in chart c.0 c.1, goes_in asked p q beyond minute a.start ∙ c.2, c.3)

  pub front_chart : FromChart (chart_of chart) (task_in asked p q beyond) minute 0 ends.front words
  front_chart i l h = held_chart i (inl h)

  pub back_chart : FromChart (chart_of chart) (task_in asked p q beyond) minute ends.back 2048 words
  back_chart i l h = held_chart i (inr (l, h))
