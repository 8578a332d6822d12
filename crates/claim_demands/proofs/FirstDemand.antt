-- The first demand, call by call, each from its promise alone.
use mathlib.Core.Path.{◌≡◌, refl, sym, ap, subst, ◌∙◌}
use mathlib.Core.Logic.{◌↔◌, ◌⊎◌, inl, inr}
use mathlib.Core.Bool.{Bool, true, false, cond, ◌&&◌, false≢true}
use mathlib.Core.List.{List}
use Prim.Native.Nat.{ℕ, ◌+◌, ◌*◌, ◌≤◌}
use lib.ListN.{length, take, drop}
use lib.Dec.{leb, ltb}
use borrow.Author.Tests.{lt-ltb, le-leb, ltb-true, leb-true, ne_eqb}
use denote.Ref.{Bor}
use Rattle.std.specs.Prelude.{Option, None}
use Rattle.base.proofs.Truth.{and_iff}
use Rattle.tctl.specs.Kind.{Runs, all_runs, some_run, is_of}
use Rattle.outcome.specs.declared.Outcome.{Outcome}
use Rattle.outcome.specs.Refusal.{success}
use Rattle.outcome.specs.Met.{Unmet}
use Rattle.outcome.proofs.First.{success_iff}
use Rattle.chart.specs.Bytes.{arrow_count}
use Rattle.chart.specs.declared.ArrowWords.{ArrowWords}
use Rattle.chart.specs.Refusals.{chart_table, chart_refusal}
use Rattle.rule.specs.Formula.{formula_of}
use Rattle.rule.specs.Refusals.{rule_table, rule_refusal}
use Rattle.call_kind.specs.declared.Kind.{Kind}
use Rattle.call_kind.specs.declared.Kind.TheVariants.{AllRuns, SomeRun, Both, Neither}
use Rattle.call_kind.specs.declared.KindAnswer.{KindAnswer}
use Rattle.call_kind.specs.Kind.{says, Answered}
use Rattle.call_kind.proofs.Answer.{kind_of_formula}
use Rattle.call_row.specs.declared.Place.{Place}
use Rattle.call_row.specs.Row.{chosen, Part, place_of}
use Rattle.call_row.proofs.Within.{within}
use Rattle.call_reader.specs.declared.ChartReader.{ChartReader}
use Rattle.call_reader.specs.declared.Stepped.{Stepped}
use Rattle.call_reader.specs.Reading.{handed, step_of, moved, number_after}
use Rattle.call_reader.proofs.InOrder.{hands_out, finished_past, finished_at_once}
use Rattle.loops.specs.Refusal.{accepted_table}
use Rattle.loops.proofs.Accepted.{accepted_iff}
use Rattle.call_map.specs.Refusals.{map_check_table}
use Rattle.claim_texts.proofs.TextTold.{read_told, wrote_told}
use Rattle.claim_demands.specs.FirstDemand.{KindTold, Wholly, PlaceTold, Itself, RowTold}
use Rattle.claim_demands.specs.FirstDemand.{HandedTold, StepTold, NextTold, FirstDemand}
use Rattle.claim_demands.proofs.Answers.{answers}
use Rattle.claim_demands.proofs.Judge.{rule_iff, judge_unbroken}
use Rattle.claim_demands.proofs.Show.{show_told}
use Rattle.claim_demands.proofs.MapCheck.{map_check_exact}

-- ── Kind of rule ──

-- the one answer that is of no kind
no_kind : (x : Kind) → ((k : Runs) → says x k ≡ false) → x ≡ Neither
no_kind AllRuns h = absurd (false≢true (sym (h all_runs)))
no_kind SomeRun h = absurd (false≢true (sym (h some_run)))
no_kind Both h = absurd (false≢true (sym (h all_runs)))
no_kind Neither h = refl

kind_told : (rule : List ℕ) (r : KindAnswer) → Answered rule r → KindTold rule r
kind_told rule r a =
    record {
      answer = answers (rule_table rule) a.outcome (rule_iff rule);
      kinds = λ e. kind_of_formula rule a (ap (λ (o : Outcome). o.number) e);
      neither = λ h.
          let refused : ¬ ((rule_refusal rule).number ≡ 0) = λ z. h (ap (λ (o : Outcome). o.number) a.outcome ∙ z) in
          no_kind r.kind (λ k. a.kind k ∙ ap (λ b. b && is_of k (formula_of rule)) (ne_eqb _ _ refused));
    }

-- ── Row ──

-- The test is true just where the row lies wholly in the table.
place_told : (size n t : ℕ) (p : Place) → p ≡ place_of size n t → PlaceTold size n t p
place_told size n t p e =
    record {
      found = λ w. e ∙ simp (lt-ltb 0 n w.0, le-leb _ _ w.1) refl;
      empty = λ h. e ∙ ap at (unless h test refl);
    }
  where
    test : Bool
    test = ltb 0 n && leb (t * n + n) size

    at : Bool → Place
    at b = cond b (record { start = t * n; size = n }) (record { start = 0; size = 0 })

    unless : ¬ (Wholly size n t) → (b : Bool) → test ≡ b → test ≡ false
    unless h true f = let both = (and_iff _ _).0 f in absurd (h (ltb-true _ _ both.0, leb-true _ _ both.1))
    unless h false f = f

-- The part is the one at the row's place, which lies in the table.
row_told :
    (table part : Bor (List ℕ)) (n t : ℕ) → Part table part (place_of (length table.now) n t) →
    RowTold table part n t
row_told table part n t x =
    record {
      found = λ w. itself (record { start = t * n; size = n }) (told.found w);
      empty = λ h. itself (record { start = 0; size = 0 }) (told.empty h);
    }
  where
    size : ℕ
    size = length table.now

    told : PlaceTold size n t (place_of size n t)
    told = place_told size n t (place_of size n t) refl

    itself : (p : Place) → place_of size n t ≡ p → Itself table part p.start p.size
    itself p e =
        record {
          inside = subst (λ q. q.start + q.size ≤ size) e (within size n t);
          bytes = x.bytes ∙ ap (λ q. take q.size (drop q.start table.now)) e;
          pointer = x.pointer ∙ ap (λ q. (table.ref_ptr.0, table.ref_ptr.1 + q.start)) e;
        }

-- ── The chart reader ──

hand_out_told : (s : List ℕ) (i : ℕ) (h : Option ArrowWords) → h ≡ handed s i → HandedTold s i h
hand_out_told s i h e = record { arrow = λ ok l. e ∙ hands_out s ok i l; finished = λ w. e ∙ end w }
  where
    end : ¬ ((chart_refusal s).number ≡ 0) ⊎ (arrow_count s ≤ i) → handed s i ≡ None
    end (inl w) = finished_at_once s w i
    end (inr l) = finished_past s i l

step_told : (s : List ℕ) (i : ℕ) (r : Stepped) → r ≡ step_of s i → StepTold s i r.handed r.number
step_told s i r e =
    record {
      answer = hand_out_told s i r.handed handed_is;
      moves = λ a x. number ∙ ap (λ h. number_after h i) x;
      stays = λ x. number ∙ ap (λ h. number_after h i) x;
    }
  where
    handed_is : r.handed ≡ handed s i
    handed_is = ap (λ (x : Stepped). x.handed) e

    number : r.number ≡ number_after r.handed i
    number = ap (λ (x : Stepped). x.number) e ∙ ap (λ h. number_after h i) (sym handed_is)

-- a reader moves on as `step` says
next_told :
    (before : ChartReader) (h : Option ArrowWords) (after : ChartReader) →
    h ≡ handed before.chart.now before.number → after ≡ moved before → NextTold before h after
next_told before h after e m =
    record {
      bytes = ap (λ (r : ChartReader). r.chart) m;
      step =
          step_told before.chart.now before.number (record { handed = h; number = after.number })
          (λ i. record { handed = e i; number = (m i).number });
    }

-- ── The demand ──

-- no row of the chart's table is met just where the call succeeds
chart_rows_iff : (s : List ℕ) → (chart_refusal s ≡ success) ↔ Unmet (chart_table s)
unfolding chart_table
chart_rows_iff s = success_iff (chart_table s) tt

pub first_demand : FirstDemand
first_demand =
    record {
      check = judge_unbroken false;
      count = judge_unbroken true;
      show = show_told;
      kind_of_rule = kind_told;
      read_rule = λ t output r newOutput h. read_told h;
      write_rule = λ rule output r newOutput h. wrote_told h;
      map_check = λ d o p r e. answers (map_check_table d o p) e (map_check_exact d o p);
      row = λ overview detail choice n t part. row_told (chosen choice overview detail) part n t;
      row_place = place_told;
      hand_out = hand_out_told;
      step = step_told;
      next = next_told;
      chart_rows = λ s r e. answers (chart_table s) e (chart_rows_iff s);
      chart_accepted = λ s r e. answers (accepted_table s) e (accepted_iff s);
      rule_rows = λ s r e. answers (rule_table s) e (rule_iff s);
    }
