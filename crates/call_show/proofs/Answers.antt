-- Show's answers: check's refusal, 60 or 61, and 62 or the run.
use mathlib.Core.Path.{◌≡◌, refl, sym, ap, ap₂, subst, ◌∙◌}
use mathlib.Core.Logic.{◌↔◌, ◌⊎◌, inl, inr}
use mathlib.Core.Bool.{true, false, ◌||◌}
use mathlib.Core.Bool.{not as neg}
use mathlib.Core.List.{List, [], ◌∷◌, ◌++◌}
use Prim.Native.Nat.{ℕ, ◌+◌, ◌*◌, ◌≤◌, ◌<◌}
use native.Mathlib.Omega.{arith}
use lib.ListN.{length, drop, replicate, length-replicate}
use lib.Dec.{leb, ltb}
use borrow.Author.Tests.{eqb-true, ne_eqb, leb-false, ltb-false, not-false}
use Rattle.std.specs.Prelude.{Option, Some, None, IfSome}
use Rattle.std.specs.Option.{unwrap_or}
use Rattle.base.proofs.Truth.{or_false, cond_elim, no_test}
use Rattle.tctl.specs.Chart.{states}
use Rattle.tctl.specs.Formula.{Formula}
use Rattle.tctl.specs.Accepted.{Accepted}
use Rattle.model.proofs.Marks.{row_below}
use Rattle.append.specs.Piece.{AtFront}
use Rattle.outcome.specs.declared.Outcome.{Outcome}
use Rattle.outcome.specs.Refusal.{Row, refuse, refusal, success, whole, first}
use Rattle.outcome.proofs.Whole.{whole_none}
use Rattle.outcome.proofs.First.{part_refuses, part_passes, part_zero, zero_iff, first_met, first_passed}
use Rattle.outcome.specs.Met.{Unmet}
use Rattle.outcome.proofs.Unmet.{unmet_row}
use Rattle.outcome.proofs.Bounded.{number_le}
use Rattle.chart.specs.Bytes.{state_count, arrow_count, chart_of}
use Rattle.chart.specs.Shape.{Shape, Passed}
use Rattle.chart.specs.Refusals.{chart_table}
use Rattle.chart.proofs.WellFormed.{well_formed}
use Rattle.chart.proofs.Reading.{has_states}
use Rattle.rule.specs.declared.NodeWords.{NodeWords}
use Rattle.rule.specs.Bytes.{node_count, node_words}
use Rattle.rule.specs.Refusals.{rule_table, is_exact, minutely}
use Rattle.rule.specs.Formula.{formula_at}
use Rattle.rule.proofs.Accepted.{accepted}
use Rattle.rule.proofs.Read.{ReadNode, until_bound, a_lower, b_lower}
use Rattle.loops.specs.Refusal.{loop_row}
use Rattle.until_start.proofs.Lent.{joins}
use Rattle.shown.specs.Shown.{Position, duration_at, Shortest}
use Rattle.shown.specs.Showable.{showable, search_of}
use Rattle.run_walk.specs.RunBytes.{run_bytes}
use Rattle.call_check.specs.Check.{check_table, check_refusal, Checked}
use Rattle.judge.specs.Judge.{size_of, judge_table, marks_of, marks_after}
use Rattle.judge.proofs.Chain.{Admitted, judge_numbered}
use Rattle.judge.proofs.Marks.{front_size, marks_length}
use Rattle.judge.proofs.Promise.{cleared_admitted, accepted_marks, cleared_scratch}
use Rattle.loops.proofs.Scratch.{unused}
use Rattle.show_refusals.specs.Rows.{mark_rows, MarksLent}
use Rattle.show_refusals.proofs.Words.{shown_by, shown_cases}
use Rattle.show_run.specs.Run.{search_in, run_in, Searchable, Ran}
use Rattle.show_refusals.specs.Fits.{table_size, table_cleared, unfit}
use Rattle.call_show.specs.Show.{no_mark, steps_of, TrueRun, show_table, show_refusal, table_after, Writable, Showed}
use Rattle.call_show.proofs.Search.{run_node}
use Rattle.call_show.proofs.Fitting.{told_none, unfit_none, fit_shortest, written_iff, run_told}
use Rattle.call_show.proofs.Accepted.{check_chart, mark_right, no_mark_lem, rows_mean}

-- ── After check ──

module _
    {chart rule marks scratch : List ℕ}
    {o : Outcome}
    {newMarks new_scratch : List ℕ}
    (c : Checked chart rule marks scratch o newMarks new_scratch)
    (node state : ℕ)
    (output : List ℕ) where
  abbrev n : ℕ
  n = state_count chart

  -- rows 60 and 61, and row 62
  abbrev marked : List Row
  marked =
      refuse 60 (whole (no_mark chart rule node state)) ∷
      refuse 61 (whole (ltb (length scratch) (table_size n))) ∷
      []

  abbrev fits : List Row
  fits = refuse 62 (whole (unfit (length output) (steps_of chart rule node state))) ∷ []

  number : o.number ≡ (check_refusal chart rule marks scratch).number
  number = ap (λ (x : Outcome). x.number) c.answer

  -- the promise, of what differs from answer to answer
  showed :
      {x : Outcome} {r : ℕ} {newTable newOutput : List ℕ} → x ≡ show_refusal chart rule marks scratch node state output →
      newTable ≡ table_after chart rule o.number x.number scratch → (shown : List Position) →
      (¬ (x.number ≡ 0) → shown ≡ []) → AtFront (run_bytes shown) r output newOutput → Writable shown →
      (x.number ≡ 0 → Shortest (TrueRun chart rule node state) shown) →
      Showed chart rule marks scratch node state output (record { outcome = x; written = r }) newMarks newTable newOutput
  showed {x} {newTable = newTable} answer cleared shown refused front told reason =
      record {
        answer = answer;
        written = c.written ∙ ap (λ k. marks_after chart rule k marks) number;
        meaning = λ z. c.meaning (number ∙ z);
        cleared = cleared ∙ ap (λ k. table_after chart rule k x.number scratch) number;
        rows = λ z. rows_mean chart rule (check_chart chart rule marks scratch z) node state output;
        shown = shown;
        refused = refused;
        front = front;
        told = told;
        reason = reason;
      }

  -- scratch as check leaves it
  left : {k : ℕ} → ¬ (k ≡ 0) → ¬ (k ≡ 62) → new_scratch ≡ table_after chart rule o.number k scratch
  unfolding table_after
  left {k} h i = rw (ne_eqb k 0 h, ne_eqb k 62 i) c.cleared

  -- a refusal that leaves scratch so, and writes nothing
  nothing :
      {x : Outcome} → x ≡ show_refusal chart rule marks scratch node state output → ¬ (x.number ≡ 0) →
      ¬ (x.number ≡ 62) →
      Showed chart rule marks scratch node state output (record { outcome = x; written = 0 }) newMarks new_scratch output
  unfolding run_bytes
  nothing answer h i =
      showed answer (left h i) [] (λ _. refl) (record { end = refl; bytes = refl }) told_none (λ z. absurd (h z))

  -- check's numbers are up to 19
  pub check_showed :
      ¬ (o.number ≡ 0) →
      Showed chart rule marks scratch node state output (record { outcome = o; written = 0 }) newMarks new_scratch output
  unfolding judge_table chart_table rule_table loop_row show_table
  check_showed h =
      let low = number_le 19 (check_table chart rule marks scratch) refl in
      nothing (part_refuses (check_table chart rule marks scratch) (marked ++ fits) c.answer h) h
      (λ e. absurd (let z : ⊥ = omega (arith, number) in z))

  -- ── After rows 60 and 61 ──

  module _ (z : o.number ≡ 0) where
    acc : Accepted (chart_of chart)
    acc = check_chart chart rule marks scratch (sym number ∙ z)

    admitted : Admitted false chart rule marks scratch
    admitted = cleared_admitted c (inl z)

    abbrev size : ℕ
    size = size_of false chart rule

    zeroed : new_scratch ≡ replicate size 0 ++ drop size scratch
    zeroed = cleared_scratch c (inl z)

    kept_size : length new_scratch ≡ length scratch
    kept_size =
        ap length zeroed ∙ front_size (replicate size 0) scratch size (length-replicate {A = ℕ} size 0) admitted.room

    marks_size : length newMarks ≡ length marks
    marks_size =
        ap length (accepted_marks c z) ∙
        front_size (marks_of chart rule) marks (node_count rule * n) (marks_length chart rule) admitted.table

    rule_whole : length rule ≡ 7 + 8 * node_count rule
    rule_whole = (accepted rule admitted.of_rule).shape.whole

    chart_shape : Shape chart n (arrow_count chart)
    chart_shape = (well_formed chart admitted.of_chart).shape

    -- the rows as they are tested are those of the table
    mark_rows_lem : first (mark_rows n rule (node_count rule) newMarks new_scratch node state) ≡ first marked
    mark_rows_lem =
        ap (λ b. first (refuse 60 (whole b) ∷ refuse 61 (whole (ltb (length new_scratch) (table_size n))) ∷ []))
        (no_mark_lem chart rule newMarks acc (c.meaning z) admitted.of_rule node state) ∙
        ap (λ l. first (refuse 60 (whole (no_mark chart rule node state)) ∷ refuse 61 (whole (ltb l (table_size n))) ∷ []))
        kept_size

    pub markable : {m k : ℕ} → m ≡ state_count chart → k ≡ node_count rule → MarksLent m rule k newMarks
    markable en ek =
        record {
          states = omega (arith, chart_shape.few_states);
          nodes = omega (arith, rule_whole);
          table = rw (en, ek, marks_size) admitted.table;
        }

    module _
        {x : Outcome}
        {m k : ℕ}
        (en : m ≡ state_count chart)
        (ek : k ≡ node_count rule)
        (e : x ≡ first (mark_rows m rule k newMarks new_scratch node state)) where
      asked : x ≡ first marked
      asked = e ∙ ap₂ (λ i j. first (mark_rows i rule j newMarks new_scratch node state)) en ek ∙ mark_rows_lem

      pub mark_showed :
          ¬ (x.number ≡ 0) →
          Showed chart rule marks scratch node state output (record { outcome = x; written = 0 }) newMarks new_scratch output
      unfolding show_table
      mark_showed h =
          let same = ap (λ (y : Outcome). y.number) asked in
          let low = number_le 61 marked refl in
          nothing
          (part_passes (check_table chart rule marks scratch) (marked ++ fits)
          (judge_numbered chart rule marks scratch false) c.answer z (part_refuses marked fits asked h)) h
          (λ i. absurd (let w : ⊥ = omega arith in w))

      -- what rows 60 and 61 leave: a mark that can be shown, and room for the table
      module _ (w : x.number ≡ 0) where
        rest : Unmet marked
        rest = (zero_iff marked tt).0 (part_zero marked asked w)

        ranges : (leb (node_count rule) node ≡ false) × ((leb n state || neg (showable (chart_of chart) (formula_at rule node) state)) ≡ false)
        ranges = or_false (leb (node_count rule) node) _ (whole_none (no_mark chart rule node state) (unmet_row rest).0)

        node_inside : node < node_count rule
        node_inside = leb-false (node_count rule) node ranges.0

        -- the node lies in the rule
        pub node_whole : 15 + 8 * node ≤ length rule
        node_whole = omega (arith, node_inside, rule_whole)

        state_inside : state < state_count chart
        state_inside = leb-false n state (or_false (leb n state) _ ranges.1).0

        can : showable (chart_of chart) (formula_at rule node) state ≡ true
        can = not-false _ (or_false (leb n state) _ ranges.1).1

        table_inside : table_size n ≤ length new_scratch
        table_inside =
            omega (arith, ltb-false (length scratch) (table_size n) (whole_none _ (unmet_row (unmet_row rest).1).0), kept_size)

        -- ── After the search ──

        module _ {v : NodeWords} (read : v ≡ node_words rule node) (small : v.c < 65536) {a : ℕ} (arrows : a ≡ arrow_count chart) where
          node_read : ReadNode rule node v
          node_read = record { accepted = admitted.of_rule; low = node_inside; read = read }

          passed : Passed chart n (arrow_count chart)
          passed = record { states = refl; arrows = refl; unrefused = admitted.of_chart }

          -- it is an until, and its operands are nodes
          until : (v.operation ≡ 5) ⊎ ((v.operation ≡ 6) × (v.kind ≡ 1))
          until = shown_cases v _ (shown_by (chart_of chart) node_read state ∙ can)

          operands : (v.a < node_count rule) × (v.b < node_count rule)
          operands = turn until
            where
              below : 5 ≤ v.operation → (v.a < node_count rule) × (v.b < node_count rule)
              below h = (
                omega (arith, a_lower node_read (omega arith), node_inside),
                omega (arith, b_lower node_read (omega arith), node_inside),
              )

              turn :
                  (v.operation ≡ 5) ⊎ ((v.operation ≡ 6) × (v.kind ≡ 1)) →
                  (v.a < node_count rule) × (v.b < node_count rule)
              turn (inl h) = below (omega arith)
              turn (inr h) = below (omega (arith, h.0))

          -- the c of an exact bound is at most 255
          exact : is_exact v ≡ true → v.c < 256
          exact e = turn until
            where
              bound : 5 ≤ v.operation → v.c < 256
              bound h = omega (arith, (until_bound node_read h).2 (eqb-true v.kind 3 e))

              turn : (v.operation ≡ 5) ⊎ ((v.operation ≡ 6) × (v.kind ≡ 1)) → v.c < 256
              turn (inl h) = bound (omega arith)
              turn (inr h) = bound (omega (arith, h.0))

          pub searchable : Searchable chart m a v newMarks state new_scratch
          searchable =
              subst (λ i. Searchable chart i a v newMarks state new_scratch) (sym en)
              (record {
                passed = record { states = refl; arrows = arrows; unrefused = admitted.of_chart };
                small = small;
                exact = exact;
                left = omega (arith, row_below n operands.0, admitted.table, marks_size);
                right = omega (arith, row_below n operands.1, admitted.table, marks_size);
                inside = state_inside;
                room = table_inside;
              })

          module _ {r : Option ℕ} {newOutput : List ℕ} (ran : Ran chart (search_in m newMarks v) state r output newOutput) where
            abbrev f : Formula
            f = formula_at rule node

            abbrev run : List Position
            run = run_in (chart_of chart).arrows (search_of (chart_of chart) f) state (length output)

            low : state < states (chart_of chart)
            low = omega (arith, has_states passed, state_inside)

            -- the run is the formula's, since the marks are right
            same : run_in (chart_of chart).arrows (search_in n newMarks v) state (length output) ≡ run
            same =
                let right = mark_right chart rule newMarks acc (c.meaning z) in
                run_node (chart_of chart) node_read (joins passed false) until newMarks (right v.a operands.0)
                (right v.b operands.1) state_inside (length output)

            ran_here : Ran chart (search_in n newMarks v) state r output newOutput
            ran_here = subst (λ i. Ran chart (search_in i newMarks v) state r output newOutput) en ran

            front : AtFront (run_bytes run) (unwrap_or r 0) output newOutput
            front = subst (λ x. AtFront (run_bytes x) (unwrap_or r 0) output newOutput) same ran_here.front

            told : Writable run
            told =
                run_told acc f low (length output) (omega (arith, has_states passed, chart_shape.few_states))
                (λ i. subst (λ x. duration_at x i ≤ 65537) same (ran_here.brief i))

            none_fits : (unfit (length output) (steps_of chart rule node state) ≡ true) ↔ (unwrap_or r 0 ≡ 0)
            none_fits = written_iff acc f low (length output) front

            last : {y : Outcome} → y ≡ first fits → y ≡ show_refusal chart rule marks scratch node state output
            unfolding show_table
            last h =
                part_passes (check_table chart rule marks scratch) (marked ++ fits)
                (judge_numbered chart rule marks scratch false) c.answer z (part_passes marked fits tt asked w h)

            module _ {newTable : List ℕ} (cleared : newTable ≡ table_cleared m new_scratch) where
              -- past the table scratch is as lent: check cleared no more
              zeros : newTable ≡ table_cleared n scratch
              zeros =
                  let less : size ≤ table_size n =
                  cond_elim (λ s. s ≤ table_size n) (minutely false rule) (λ e. omega arith) (λ e. omega arith) in
                  let room : table_size n ≤ length scratch = omega (arith, table_inside, kept_size) in
                  let past =
                  unused size (table_size n) scratch (replicate size 0) (length-replicate {A = ℕ} size 0) less room in
                  cleared ∙
                  ap (λ i. table_cleared i new_scratch) en ∙
                  ap (table_cleared n) zeroed ∙
                  ap (λ l. replicate (table_size n) 0 ++ l) past

              pub unfit_showed :
                  {y : Outcome} → y ≡ refusal 62 0 → r ≡ None →
                  Showed chart rule marks scratch node state output (record { outcome = y; written = 0 }) newMarks newTable newOutput
              unfolding table_after
              unfit_showed {y} h i =
                  let empty : unwrap_or r 0 ≡ 0 = ap (λ o. unwrap_or o 0) i in
                  let none = none_fits.1 empty in
                  showed (last (h ∙ sym (first_met 62 _ 0 [] (ap whole none))))
                  (zeros ∙ sym (ap (λ (y : Outcome). table_after chart rule o.number y.number scratch) h))
                  run
                  (λ _. unfit_none (chart_of chart).arrows _ state (length output) (steps_of chart rule node state) none)
                  (subst (λ o. AtFront (run_bytes run) (unwrap_or o 0) output newOutput) i front) told
                  (λ j. absurd (let e = ap (λ (y : Outcome). y.number) h in let b : ⊥ = omega arith in b))

              pub run_showed :
                  {y : Outcome} → y ≡ success → {size : ℕ} → r ≡ Some size →
                  Showed chart rule marks scratch node state output (record { outcome = y; written = size }) newMarks newTable newOutput
              unfolding table_after first
              run_showed {y} h i =
                  let written = subst (λ o. IfSome o (λ size. 1 ≤ size)) i ran.written in
                  let size = ap (λ o. unwrap_or o 0) i in
                  let some = no_test none_fits (λ e. omega (arith, written, size, e)) in
                  showed (last (h ∙ sym (first_passed 62 _ [] (ap whole some))))
                  (zeros ∙ sym (ap (λ (y : Outcome). table_after chart rule o.number y.number scratch) h))
                  run
                  (λ j. absurd (j (ap (λ (y : Outcome). y.number) h)))
                  (subst (λ o. AtFront (run_bytes run) (unwrap_or o 0) output newOutput) i front) told
                  (λ _. fit_shortest acc f low (length output) some)
