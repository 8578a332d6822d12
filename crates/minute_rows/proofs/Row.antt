-- A row that begins with what makes it at once, and whose arrows are followed, is the next of the table.
use mathlib.Core.Path.{◌≡◌, refl, sym, ap, subst, ◌∙◌}
use mathlib.Core.Logic.{inr, by_cases}
use mathlib.Core.List.{List}
use mathlib.Core.Bool.{Bool, true}
use Prim.Native.Nat.{ℕ, suc, ◌*◌, ◌≤◌, ◌<◌}
use native.Mathlib.Omega.{arith}
use native.Mathlib.Decide.{dec_le}
use lib.ListN.{length}
use Rattle.base.specs.Entries.{Entries}
use Rattle.base.proofs.Tabulate.{tabulate_mem}
use Rattle.model.specs.Engine.{num}
use Rattle.model.specs.Marks.{flag}
use Rattle.chart.specs.Bytes.{arrow_count, arrow_words, arrow_of, chart_of}
use Rattle.chart.proofs.Reading.{drawn, has_states}
use Rattle.minutes.specs.Makes.{stops_at}
use Rattle.moves.specs.declared.Ends.{Ends}
use Rattle.moves.specs.Moves.{capped, move_of, open_in}
use Rattle.minute_rows.specs.declared.Asked.{Asked}
use Rattle.minute_rows.specs.Numbers.{answer, met_in, task_in, stops_by}
use Rattle.minute_rows.specs.Filled.{RowsFilled, MinuteReady, row_begun, leads_on, Tried, Swept, Closed}
use Rattle.minute_rows.proofs.Tasks.{stops_in, goes_in}
use Rattle.minute_rows.proofs.Sweeping.{word_still, tried_later}
use Rattle.minute_rows.proofs.Beginning.{filling_begun}
use Rattle.minute_rows.proofs.Closing.{AllTried, filled_row}
use Rattle.minute_rows.proofs.Collecting.{held_word, front_chart, back_chart}

module _
    {asked : Asked}
    {chart : List ℕ}
    {n minute : ℕ}
    {ends : Ends}
    {words p q beyond numbers : List ℕ}
    (ready : MinuteReady asked chart n minute ends words p q beyond numbers) where
  -- An arrow from where it may go on has its word: those of the front are tried to the end, and those of the back lead
  -- to rows below, which stay.
  all_tried :
      {r : Bool} {first mid new : List ℕ} → length first ≡ length numbers →
      Swept n minute ends.back 2048 words beyond r first mid → Closed n minute ends.front words beyond mid new →
      AllTried (chart_of chart) (task_in asked p q beyond) n minute beyond new
  unfolding chart_of
  all_tried {new = new} size swept closed a k g on =
      by_cases (dec_le 1 (arrow_words chart j).fewest)
      (λ l.
      let c = ready.collected.later j m.1 goes l in
      let later : 1 ≤ (move_of (num words c.0)).fewest = subst (λ b. 1 ≤ b.fewest) (sym c.3) (omega arith) in
      let word = word_still (swept.kept.size ∙ size) (held_word ready c.0 (inr (c.1, c.2))) in
      tried_at c.0 c.3
      (tried_later closed.kept c.0 word later (swept.tried c.0 c.1 c.2 (inr later))))
      (λ l.
      let c = ready.collected.instant j m.1 goes (omega arith) in
      tried_at c.0 c.2 (closed.tried c.0 c.1))
    where
      m : (j : ℕ) × (j < arrow_count chart) × (a ≡ arrow_of (arrow_words chart j))
      m = tabulate_mem (arrow_count chart) (λ j. arrow_of (arrow_words chart j)) k

      j : ℕ
      j = m.0

      goes : open_in (met_in asked minute) p q (arrow_words chart j).start ≡ true
      goes =
          subst (λ a. open_in (met_in asked minute) p q a.start ≡ true) m.2
          (sym (goes_in asked p q beyond minute a.start) ∙ g)

      tried_at :
          (i : ℕ) → move_of (num words i) ≡ capped (arrow_of (arrow_words chart j)) → Tried n minute words beyond new i →
          answer n beyond new (suc minute) a.start ≡ true
      tried_at i same tried =
          subst (λ b. leads_on n minute beyond new b ≡ true → answer n beyond new (suc minute) b.start ≡ true)
          (same ∙ sym (ap capped m.2)) tried on

  pub row_filled :
      {met r : Bool} {first mid new : List ℕ} → met ≡ met_in asked minute →
      Entries (minute * n) n (row_begun asked.all met n minute p q beyond numbers) numbers first →
      Swept n minute ends.back 2048 words beyond r first mid → Closed n minute ends.front words beyond mid new →
      RowsFilled (chart_of chart) n (task_in asked p q beyond) (suc minute) new
  row_filled {met} is-met begun swept closed =
      let G = chart_of chart in
      let dr = drawn ready.passed in
      let count = has_states ready.passed in
      let w = task_in asked p q beyond in
      let stop : ℕ → Bool = λ s. stops_by asked.all met (flag p s) (flag q s) in
      let stops : (s : ℕ) → stops_at w (suc minute) s ≡ stop s =
      λ s.
      stops_in asked p q beyond minute s ∙ ap (λ b. stops_by asked.all b (flag p s) (flag q s)) (sym is-met) in
      let began = filling_begun w beyond (λ s. refl) ready.filled stop stops begun in
      let later = swept.kept.right G w dr count (back_chart ready) began in
      let last = closed.kept.right G w dr count (front_chart ready) later in
      filled_row dr count beyond ready.rows.few last (all_tried begun.size swept closed)
