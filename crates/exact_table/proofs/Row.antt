-- A row that begins with where a path can end, and whose arrows are tried, is that of the fewest steps.
use mathlib.Core.Path.{◌≡◌, sym, ap, subst, ◌∙◌}
use mathlib.Core.Logic.{inl, inr, by_cases}
use mathlib.Core.List.{List, Memᴰ}
use mathlib.Core.Bool.{Bool, true, false, cond, ◌&&◌}
use Prim.Native.Nat.{ℕ, suc, ◌+◌, ◌*◌, ◌≤◌, ◌<◌}
use native.Mathlib.Omega.{arith}
use native.Mathlib.Decide.{dec_le}
use lib.Dec.{eqb}
use borrow.Author.Tests.{eq-eqb}
use Rattle.base.specs.Entries.{Entries}
use Rattle.base.proofs.Truth.{and_iff, cond_elim}
use Rattle.tctl.specs.Chart.{Arrow}
use Rattle.tctl.proofs.Drawn.{Joins}
use Rattle.model.specs.Engine.{num}
use Rattle.model.specs.Marks.{flag}
use Rattle.model.proofs.Marks.{row_below}
use Rattle.chart.specs.Bytes.{arrow_count, arrow_words, arrow_of, chart_of}
use Rattle.chart.proofs.Chart.{arrow_of_lem}
use Rattle.chart.proofs.Reading.{drawn, has_states}
use Rattle.shown.specs.Exact.{Takes, reaches, steps_left}
use Rattle.shown.proofs.Fewest.{left_reaches, level_left}
use Rattle.shown.proofs.Fewest as fewest
use Rattle.moves.specs.declared.Ends.{Ends}
use Rattle.moves.specs.Moves.{capped, move_of, open_in}
use Rattle.exact_table.specs.Rows.{left_in, RowsLeft, RowReady}
use Rattle.exact_table.specs.Lowered.{row_begun, Level, Ways, Sound, Kept, Swept, Closed}
use Rattle.exact_table.proofs.Keeping.{below_kept, level_kept}
use Rattle.exact_table.proofs.Collecting.{takes_capped, open_iff, front_extends, back_extends}

module _
    {chart : List ℕ}
    {n minute : ℕ}
    {ends : Ends}
    {words p q table : List ℕ}
    (ready : RowReady chart n minute ends words p q table) where
  abbrev arrows : List Arrow
  arrows = (chart_of chart).arrows

  abbrev way : Ways
  way = reaches arrows (flag p) (flag q)

  joins : Joins n arrows
  joins a m =
      let dr = drawn ready.passed in
      let count = has_states ready.passed in
      (omega (arith, dr.starts a m), omega (arith, dr.ends a m))

  -- ── The beginning ──

  module _ {first : List ℕ} (begun : Entries (minute * n) n (row_begun minute q) table first) where
    below_begun : (m s : ℕ) → m < minute → s < n → left_in n first m s ≡ left_in n table m s
    below_begun m s l h = begun.elsewhere (m * n + s) (inl (omega (arith, row_below n l)))

    -- a number of the row is 0 where no minute is left and q holds
    begun_here : (s : ℕ) → s < n → left_in n first minute s < 257 → way (left_in n first minute s) minute s ≡ true
    unfolding reaches
    begun_here s h =
        subst (λ v. v < 257 → way v minute s ≡ true) (sym (begun.here s h))
        (cond_elim (λ v. v < 257 → way v minute s ≡ true) (eqb minute 0 && flag q s) (λ e small. e)
        (λ e small. absurd (let z : ⊥ = omega arith in z)))

    begun_sound : Sound way n minute first
    begun_sound m s l h =
        by_cases (dec_le (suc m) minute)
        (λ k small.
        let is = below_begun m s k h ∙ ready.below.are m s k h in
        subst (λ v. way v m s ≡ true) (sym is) (left_reaches arrows (flag p) (flag q) m s (omega (arith, is))))
        (λ k.
        let e : minute ≡ m = omega arith in
        subst (λ m. left_in n first m s < 257 → way (left_in n first m s) m s ≡ true) e (begun_here s h))

    begun_low : (s : ℕ) → s < n → left_in n first minute s ≤ 257
    begun_low s h =
        subst (λ v. v ≤ 257) (sym (begun.here s h))
        (cond_elim (λ v. v ≤ 257) (eqb minute 0 && flag q s) (λ e. omega arith) (λ e. omega arith))

    begun_ends : (s : ℕ) → s < n → minute ≡ 0 → flag q s ≡ true → left_in n first minute s ≡ 0
    begun_ends s h e f =
        begun.here s h ∙
        ap (λ b. cond b 0 257) ((and_iff (eqb minute 0) (flag q s)).1 (eq-eqb minute 0 e, f))

  -- ── The end ──

  module _
      {first back front new : List ℕ}
      {r r' : Bool}
      (begun : Entries (minute * n) n (row_begun minute q) table first)
      (far : Swept n minute minute ends.back 2048 words r first back)
      (near : Swept n minute minute 0 ends.front words r' back front)
      (closed : Closed n minute ends.front words front new) where
    below : (m s : ℕ) → m < minute → s < n → left_in n new m s ≡ steps_left arrows (flag p) (flag q) m s
    below m s l h =
        below_kept closed.kept m s l h ∙
        below_kept near.kept m s l h ∙
        below_kept far.kept m s l h ∙
        below_begun begun m s l h ∙
        ready.below.are m s l h

    falls : (s : ℕ) → s < n → left_in n new minute s ≤ left_in n first minute s
    falls s h = omega (arith, closed.kept.falls s h, near.kept.falls s h, far.kept.falls s h)

    -- An arrow that takes a minute leads to a row below, so that it is level since it was tried; one that takes none was
    -- tried until it is.
    level :
        (a : Arrow) → Memᴰ a arrows → flag p a.start ≡ true → (d : ℕ) → Takes a minute d →
        Level n minute new a d
    level a member goes d takes =
        by_cases (dec_le 1 (arrow_words chart j).fewest)
        (λ l.
        let c = ready.collected.later j x.1 opens l in
        let some : 1 ≤ d = omega (arith, takes.least, ap (λ b. b.fewest) x.2) in
        as_word c.0 c.3 (λ t.
        stays closed.kept some (stays near.kept some
        (by_arrow back c.0 c.3 (far.tried c.0 d c.1 c.2 t (inr some))))))
        (λ l.
        let c = ready.collected.instant j x.1 opens (omega arith) in
        as_word c.0 c.2 (λ t.
        by_cases (dec_le 1 d)
        (λ some.
        stays closed.kept some
        (by_arrow front c.0 c.2 (near.tried c.0 d (omega arith) c.1 t (inr some))))
        (λ none.
        by_arrow new c.0 c.2
        (closed.tried c.0 d c.1
        (record { inside = omega arith; least = t.least; greatest = t.greatest })))))
      where
        x : (j : ℕ) × (j < arrow_count chart) × (a ≡ arrow_of (arrow_words chart j))
        x = arrow_of_lem chart a member

        j : ℕ
        j = x.0

        opens : open_in false p q (arrow_words chart j).start ≡ true
        opens =
            open_iff (flag p (arrow_words chart j).start) (flag q (arrow_words chart j).start) ∙
            subst (λ b. flag p b.start ≡ true) x.2 goes

        -- the word's arrow is the capped one
        is : (i : ℕ) → move_of (num words i) ≡ capped (arrow_of (arrow_words chart j)) → capped a ≡ move_of (num words i)
        is i e = ap capped x.2 ∙ sym e

        as_word :
            {A : Type 0} (i : ℕ) → move_of (num words i) ≡ capped (arrow_of (arrow_words chart j)) →
            (Takes (move_of (num words i)) minute d → A) → A
        as_word i e f = f (subst (λ b. Takes b minute d) (is i e) (takes_capped ready.few takes))

        by_arrow :
            (numbers : List ℕ) (i : ℕ) → move_of (num words i) ≡ capped (arrow_of (arrow_words chart j)) →
            Level n minute numbers (move_of (num words i)) d → Level n minute numbers a d
        by_arrow numbers i e = subst (λ b. Level n minute numbers b d) (sym (is i e))

        stays :
            {from to : ℕ} {old now : List ℕ} → Kept n minute from to words old now → 1 ≤ d → Level n minute old a d →
            Level n minute now a d
        stays kept some =
            level_kept kept a (joins a member).0 (joins a member).1 some takes.inside

    row : fewest.LevelRow arrows (flag p) (flag q) n minute (left_in n new)
    row =
        record {
          low = λ s h. omega (arith, falls s h, begun_low begun s h);
          is = λ s h.
              closed.kept.sound way (front_extends ready)
              (near.kept.sound way (front_extends ready)
              (far.kept.sound way (back_extends ready) (begun_sound begun)))
              minute s (omega arith) h;
          ends = λ s h e f. omega (arith, falls s h, begun_ends begun s h e f);
          level = level;
        }

    pub row_left : RowsLeft chart n p q (suc minute) new
    row_left =
        record {
          are = λ m s l h.
              by_cases (dec_le (suc m) minute) (λ k. below m s k h)
              (λ k.
              let e : minute ≡ m = omega arith in
              subst (λ m. left_in n new m s ≡ steps_left arrows (flag p) (flag q) m s) e
              (level_left arrows (flag p) (flag q) joins below row s h));
        }
