-- Entries follow from numbers: every row of every table but the overview's carries its number's own, and the overview's
-- rows answer only where the detail is accepted and the overview is not.
use mathlib.Core.Path.{◌≡◌, refl, sym, ap, subst, ◌∙◌}
use mathlib.Core.Logic.{⊎_elim, by_cases}
use mathlib.Core.Bool.{Bool, true, false, ◌||◌}
use mathlib.Core.List.{List}
use Prim.Native.Nat.{ℕ}
use native.Mathlib.Decide.{ℕ_discrete}
use lib.ListN.{length}
use lib.Dec.{eqb}
use borrow.Author.Tests.{eqb-true}
use Rattle.base.proofs.Truth.{or_iff}
use Rattle.outcome.specs.declared.Outcome.{Outcome}
use Rattle.outcome.specs.Entry.{chart_or_detail, entry_of}
use Rattle.outcome.specs.Refusal.{Row, first}
use Rattle.outcome.proofs.Bounded.{number_each}
use Rattle.outcome.proofs.Own.{own, own_entry}
use Rattle.chart.specs.Refusals.{chart_table}
use Rattle.rule.specs.Refusals.{rule_table, bound_row}
use Rattle.rule_grammar.specs.Grammar.{Verdict}
use Rattle.loops.specs.Refusal.{loop_row, accepted_table, accepted_refusal}
use Rattle.judge.specs.Judge.{judge_table}
use Rattle.call_map.specs.Refusals.{map_table, map_refusal}
use Rattle.call_map.proofs.Chain.{lower_refuses, upper_refuses, map_next}
use Rattle.call_map.proofs.Overview.{overview_refuses, overview_passes}
use Rattle.call_show.specs.Show.{show_table}
use Rattle.call_read_rule.specs.Read.{read_table}
use Rattle.call_write_rule.specs.Write.{write_table}
use Rattle.claim_demands.specs.Entries.{Follows, MapFollows, EntriesFollow}

-- what answers by such a table
follows : (table : List Row) {r : Outcome} → own table ≡ true → r ≡ first table → Follows r
follows table h e = subst Follows (sym e) (own_entry table h)

-- ── The tables, each by a test that is computed ──

module _ (s : List ℕ) where
  own_chart : own (chart_table s) ≡ true
  unfolding chart_table entry_of
  own_chart = refl

  own_accepted : own (accepted_table s) ≡ true
  unfolding accepted_table chart_table loop_row entry_of
  own_accepted = refl

  own_rule : own (rule_table s) ≡ true
  unfolding rule_table entry_of
  own_rule = refl

  own_write : (room : ℕ) → own (write_table s room) ≡ true
  unfolding write_table rule_table entry_of
  own_write room = refl

own_judge : (counting : Bool) (chart rule marks scratch : List ℕ) → own (judge_table counting chart rule marks scratch) ≡ true
unfolding judge_table chart_table rule_table bound_row loop_row entry_of
own_judge true chart rule marks scratch = refl
own_judge false chart rule marks scratch = refl

own_show :
    (chart rule marks scratch : List ℕ) (node state : ℕ) (output : List ℕ) →
    own (show_table chart rule marks scratch node state output) ≡ true
unfolding show_table judge_table chart_table rule_table loop_row entry_of
own_show chart rule marks scratch node state output = refl

own_read : (bytes : ℕ) (v : Verdict) (room : ℕ) → own (read_table bytes v room) ≡ true
unfolding read_table entry_of
own_read bytes v room = refl

own_map : (d o p : List ℕ) → own (map_table d o p) ≡ true
unfolding map_table entry_of
own_map d o p = refl

-- ── Map check ──

-- every number of the chart's own table carries 1 (and so does 23, which is none of them)
chart_numbered :
    (s : List ℕ) → let n = (accepted_refusal s).number in (eqb n 0 || eqb (entry_of n) chart_or_detail) ≡ true
unfolding accepted_table chart_table loop_row entry_of
chart_numbered s = number_each (λ n. eqb n 0 || eqb (entry_of n) chart_or_detail) (accepted_table s) refl refl

chart_number : (s : List ℕ) → ¬ ((accepted_refusal s).number ≡ 0) → entry_of (accepted_refusal s).number ≡ chart_or_detail
chart_number s h =
    let n = (accepted_refusal s).number in
    ⊎_elim (λ z. absurd (h (eqb-true n 0 z))) (λ e. eqb-true (entry_of n) chart_or_detail e)
    ((or_iff (eqb n 0) (eqb (entry_of n) chart_or_detail)).0 (chart_numbered s))

module _ (d o p : List ℕ) {r : Outcome} (e : r ≡ map_refusal d o p) where
  of_detail : ¬ ((accepted_refusal d).number ≡ 0) → Follows r
  of_detail h = follows (accepted_table d) (own_accepted d) (e ∙ sym (lower_refuses d o p refl h))

  -- where both charts are accepted the map's rows answer
  of_map : (accepted_refusal d).number ≡ 0 → (accepted_refusal o).number ≡ 0 → Follows r
  of_map z y =
      follows (map_table d o p) (own_map d o p) (e ∙ sym (map_next d o p refl z (overview_passes o refl y refl) refl refl))

  map_follows : MapFollows d o r
  map_follows =
      record {
        own =
            ⊎_elim of_detail (λ y. by_cases (ℕ_discrete (accepted_refusal d).number 0) (λ z. of_map z y) of_detail);
        other = λ z h.
            let here = e ∙ sym (upper_refuses d o p refl z (overview_refuses o refl h refl) h) in
            (here, ap (λ (x : Outcome). entry_of x.number) here ∙ chart_number o h);
      }

pub entries_follow : EntriesFollow
entries_follow =
    record {
      check = λ chart rule marks scratch r _ _ promised.
          follows _ (own_judge false chart rule marks scratch) promised.answer;
      count = λ chart rule marks scratch r _ _ promised.
          follows _ (own_judge true chart rule marks scratch) promised.answer;
      show = λ chart rule marks scratch node state output r _ _ _ promised.
          follows _ (own_show chart rule marks scratch node state output) promised.answer;
      kind_of_rule = λ rule r promised. follows _ (own_rule rule) promised.outcome;
      read_rule = λ t output r _ promised. follows _ (own_read (length t) promised.verdict (length output)) promised.outcome;
      write_rule = λ rule output r _ promised. follows _ (own_write rule (length output)) promised.outcome;
      map_check = λ d o p r e. map_follows d o p e;
      chart_rows = λ s r e. follows _ (own_chart s) e;
      chart_accepted = λ s r e. follows _ (own_accepted s) e;
      rule_rows = λ s r e. follows _ (own_rule s) e;
    }
