-- Show: its part of the first demand, from its promise alone.
use mathlib.Core.Path.{◌≡◌, refl, sym, ap, ap₂, subst, ◌∙◌}
use mathlib.Core.Logic.Iff
use mathlib.Core.Logic.{◌↔◌, ◌⊎◌, inl, inr, ⊎_map, by_cases}
use mathlib.Core.Bool.{false, false≢true}
use mathlib.Core.List.{List, [], ◌++◌}
use mathlib.Core.Option.{Option, none, some}
use Prim.Native.Nat.{ℕ, suc, ◌*◌, ◌<◌}
use native.Mathlib.Decide.{ℕ_discrete}
use native.Mathlib.Omega.{arith}
use lib.ListN.{length, get_or, take, drop, replicate, length-replicate}
use lib.Seq.{take-append_seam}
use lib.Dec.{leb}
use borrow.Author.Tests.{leb-false, lt-leb, ltb-false, le-ltb, not-false, ne_eqb}
use Rattle.base.proofs.Truth.{or_false}
use Rattle.outcome.specs.declared.Outcome.{Outcome}
use Rattle.outcome.specs.Refusal.{success}
use Rattle.outcome.specs.Met.{Unmet}
use Rattle.outcome.specs.declared.Written.{Written}
use Rattle.outcome.proofs.First.{success_iff, zero_iff}
use Rattle.append.specs.Piece.{AtFront}
use Rattle.tctl.specs.Chart.{states}
use Rattle.chart.specs.Bytes.{state_count, chart_of}
use Rattle.chart.proofs.Chart.{states_of}
use Rattle.rule.specs.Bytes.{node_count}
use Rattle.rule.specs.Formula.{formula_at}
use Rattle.loops.specs.Accepted.{AcceptedChart}
use Rattle.shown.specs.Shown.{Showable}
use Rattle.shown.specs.Search.{Search, walk_by}
use Rattle.shown.specs.Showable.{showable, search_of}
use Rattle.shown.proofs.Walks.{walk_by_length}
use Rattle.shown.proofs.Meaning.{showable_iff, found_shortest, none_iff}
use Rattle.run_walk.specs.RunBytes.{run_bytes}
use Rattle.run_walk.proofs.RunBytes.{run_bytes_length}
use Rattle.call_check.specs.Check.{check_table, check_refusal}
use Rattle.judge.specs.Judge.{marks_after, scratch_after}
use Rattle.judge.proofs.Marks.{front_size, past_front}
use Rattle.judge.proofs.Chain.{judge_numbered}
use Rattle.call_show.proofs.Passed.{Passes, show_numbered, show_iff, table_lent}
use Rattle.call_show.specs.Show.{no_mark, steps_of, show_table, show_refusal, table_after, Showed}
use Rattle.show_refusals.specs.Fits.{table_size, unfit}
use Rattle.claim_demands.specs.Acceptable.{Acceptable}
use Rattle.claim_demands.specs.FirstDemand.{Unbroken}
use Rattle.claim_demands.specs.ShowTold.{Fitting, ShowAcceptable, ShowTold}
use Rattle.claim_demands.proofs.Answers.{answers}
use Rattle.claim_demands.proofs.Judge.{judge_accepts, zero_front, judge_unbroken}

module _ (chart rule marks scratch : List ℕ) (node state : ℕ) (output : List ℕ) where
  abbrev search : Search
  search = search_of (chart_of chart) (formula_at rule node)

  -- ── Row 60 ──

  mark_left :
      AcceptedChart chart → no_mark chart rule node state ≡ false →
      (node < node_count rule) × (state < state_count chart) × Showable (chart_of chart) (formula_at rule node) state
  mark_left accepted e =
      let past = or_false (leb (node_count rule) node) _ e in
      let inside = or_false (leb (state_count chart) state) _ past.1 in
      let low : state < state_count chart = leb-false (state_count chart) state inside.0 in (
        leb-false (node_count rule) node past.0,
        low,
        (showable_iff accepted.meaning (formula_at rule node) {s = state} (omega (arith, low, states_of chart))).0
            (not-false (showable (chart_of chart) (formula_at rule node) state) inside.1),
      )

  mark_passed : ShowAcceptable chart rule marks scratch node state output → no_mark chart rule node state ≡ false
  mark_passed a =
      let low : state < states (chart_of chart) = omega (arith, a.state_inside, states_of chart) in
      let yes = (showable_iff a.checked.chart_accepted.meaning (formula_at rule node) low).1 a.mark in
      rw (lt-leb (node_count rule) node a.node_inside, lt-leb (state_count chart) state a.state_inside, yes) refl

  -- ── Row 62 ──

  fit_left :
      AcceptedChart chart → state < state_count chart → unfit (length output) (steps_of chart rule node state) ≡ false →
      Fitting chart rule node state output
  fit_left accepted l = turn (steps_of chart rule node state) refl
    where
      turn :
          (o : Option ℕ) → steps_of chart rule node state ≡ o → unfit (length output) o ≡ false →
          Fitting chart rule node state output
      turn none e h = absurd (false≢true (sym h))
      turn (some k) e h =
          let short =
          found_shortest accepted.meaning (formula_at rule node) (omega (arith, l, states_of chart)) e in
          record {
            shown = walk_by (chart_of chart).arrows search k state;
            true_run = short.reason;
            short = short.short;
            fits = omega (arith, ltb-false (length output) (6 * suc k) h, walk_by_length (chart_of chart).arrows search k state);
          }

  fit_passed :
      ShowAcceptable chart rule marks scratch node state output →
      unfit (length output) (steps_of chart rule node state) ≡ false
  fit_passed a = turn (steps_of chart rule node state) refl
    where
      low : state < states (chart_of chart)
      low = omega (arith, a.state_inside, states_of chart)

      turn : (o : Option ℕ) → steps_of chart rule node state ≡ o → unfit (length output) o ≡ false
      turn none e =
          absurd ((none_iff a.checked.chart_accepted.meaning (formula_at rule node) low).0 e a.run.shown
          a.run.true_run a.run.short)
      turn (some k) e =
          let short = found_shortest a.checked.chart_accepted.meaning (formula_at rule node) low e in
          le-ltb (length output) (6 * suc k)
          (omega (arith, a.run.fits, short.fewest a.run.shown a.run.true_run, walk_by_length (chart_of chart).arrows search k state))

  -- ── The table ──

  -- row by row: none is met just where check accepts, the mark can be shown, there is room, and a run fits
  pub show_accepts :
      (show_refusal chart rule marks scratch node state output ≡ success) ↔
      ShowAcceptable chart rule marks scratch node state output
  show_accepts =
      Iff.trans
      (success_iff (show_table chart rule marks scratch node state output)
      (show_numbered chart rule marks scratch node state output))
      (Iff.trans (show_iff chart rule marks scratch node state output) (there, back))
    where
      checks : (Unmet (check_table chart rule marks scratch)) ↔ Acceptable false chart rule marks scratch
      checks =
          Iff.trans
          (Iff.symm (success_iff (check_table chart rule marks scratch) (judge_numbered chart rule marks scratch false)))
          (judge_accepts false chart rule marks scratch)

      there : Passes chart rule marks scratch node state output → ShowAcceptable chart rule marks scratch node state output
      there h =
          let checked = checks.0 h.0 in
          let left = mark_left checked.chart_accepted h.1 in
          record {
            checked = checked;
            node_inside = left.0;
            state_inside = left.1;
            mark = left.2;
            table = ltb-false (length scratch) (table_size (state_count chart)) h.2;
            run = fit_left checked.chart_accepted left.1 h.3;
          }

      back : ShowAcceptable chart rule marks scratch node state output → Passes chart rule marks scratch node state output
      back a = (
        checks.1 a.checked,
        mark_passed a,
        le-ltb (length scratch) (table_size (state_count chart)) a.table,
        fit_passed a,
      )

-- The answer is the table's first row that is met, and what is left is as the promise says, case by case.
pub show_told :
    (chart rule marks scratch : List ℕ) (node state : ℕ) (output : List ℕ) (r : Written)
    (newMarks new_scratch newOutput : List ℕ) →
    Showed chart rule marks scratch node state output r newMarks new_scratch newOutput →
    ShowTold chart rule marks scratch node state output r newMarks new_scratch newOutput
unfolding marks_after table_after run_bytes
show_told chart rule marks scratch node state output r newMarks new_scratch newOutput s =
    record {
      answer =
          answers (show_table chart rule marks scratch node state output) s.answer
          (show_accepts chart rule marks scratch node state output);
      rows = s.rows;
      sizes = (unbroken.sizes.0, scratch_size_lem, output_size);
      marks_stand = s.meaning;
      marks_kept = unbroken.marks_kept;
      later_kept = unbroken.later_kept;
      cleared = λ w i l. ap (λ m. get_or m i 0) (s.cleared ∙ zeroed w) ∙ zero_front size scratch i l;
      beyond = λ w i l.
          ap (λ m. get_or m i 0) (s.cleared ∙ zeroed w) ∙
          past_front zeros scratch size (length-replicate {A = ℕ} size 0) i l;
      as_checked = λ h k. s.cleared ∙ unzeroed h k;
      refused = λ h. nothing (s.refused h);
      past_kept = λ j l.
          ap (λ m. get_or m j 0) s.front.bytes ∙
          past_front (run_bytes s.shown) output (length (run_bytes s.shown)) refl j (omega (arith, l, s.front.end));
      shown = λ z. (
        s.shown,
        s.front.end ∙ run_bytes_length s.shown,
        ap₂ take s.front.end s.front.bytes ∙ take-append_seam (run_bytes s.shown) _,
        s.reason z,
      );
    }
  where
    size : ℕ
    size = table_size (state_count chart)

    zeros : List ℕ
    zeros = replicate size 0

    checked : ℕ
    checked = (check_refusal chart rule marks scratch).number

    -- what check by itself would have left
    unbroken :
        Unbroken false chart rule marks scratch (check_refusal chart rule marks scratch) newMarks
        (scratch_after false chart rule checked scratch)
    unbroken =
        judge_unbroken false chart rule marks scratch (check_refusal chart rule marks scratch) newMarks
        (scratch_after false chart rule checked scratch)
        (record { answer = refl; written = s.written; cleared = refl; meaning = s.meaning })

    zeroed :
        (r.outcome.number ≡ 0) ⊎ (r.outcome.number ≡ 62) →
        table_after chart rule checked r.outcome.number scratch ≡ zeros ++ drop size scratch
    zeroed (inl z) = rw z
    zeroed (inr z) = rw z

    unzeroed :
        ¬ (r.outcome.number ≡ 0) → ¬ (r.outcome.number ≡ 62) →
        table_after chart rule checked r.outcome.number scratch ≡ scratch_after false chart rule checked scratch
    unzeroed h k = simp (ne_eqb r.outcome.number 0 h, ne_eqb r.outcome.number 62 k)

    nothing : s.shown ≡ [] → (r.written ≡ 0) × (newOutput ≡ output)
    nothing e =
        let h = subst (λ run. AtFront (run_bytes run) r.written output newOutput) e s.front in
        (h.end, h.bytes)

    same : r.outcome.number ≡ (show_refusal chart rule marks scratch node state output).number
    same = ap (λ (o : Outcome). o.number) s.answer

    scratch_size_lem : length new_scratch ≡ length scratch
    scratch_size_lem =
        by_cases (ℕ_discrete r.outcome.number 0) (λ z. zero_size (inl z))
        (λ h. by_cases (ℕ_discrete r.outcome.number 62) (λ z. zero_size (inr z))
        (λ k. ap (λ (l : List ℕ). length l) (s.cleared ∙ unzeroed h k) ∙ unbroken.sizes.1))
      where
        zero_size : (r.outcome.number ≡ 0) ⊎ (r.outcome.number ≡ 62) → length new_scratch ≡ length scratch
        zero_size w =
            ap (λ (l : List ℕ). length l) (s.cleared ∙ zeroed w) ∙
            front_size zeros scratch size (length-replicate {A = ℕ} size 0)
            (table_lent chart rule marks scratch node state output (⊎_map (λ z. sym same ∙ z) (λ z. sym same ∙ z) w))

    output_size : length newOutput ≡ length output
    output_size =
        by_cases (ℕ_discrete r.outcome.number 0) shown_size
        (λ h. ap (λ (l : List ℕ). length l) (nothing (s.refused h)).1)
      where
        shown_size : r.outcome.number ≡ 0 → length newOutput ≡ length output
        shown_size z =
            let table = show_table chart rule marks scratch node state output in
            let numbered = show_numbered chart rule marks scratch node state output in
            let unmet = (zero_iff table numbered).0 (sym same ∙ z) in
            let fit = ((show_accepts chart rule marks scratch node state output).0 ((success_iff table numbered).1 unmet)).run in
            let least = (s.reason z).fewest fit.shown fit.true_run in
            ap (λ (l : List ℕ). length l) s.front.bytes ∙
            front_size (run_bytes s.shown) output (length (run_bytes s.shown)) refl
            (omega (arith, run_bytes_length s.shown, least, fit.fits))
