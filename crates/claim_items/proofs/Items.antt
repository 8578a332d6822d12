-- The thirteen items are right about the meaning: one computed test over the list, and one theorem that turns it into
-- Holds for every listed 1 and its refutation for every listed 0.
use mathlib.Core.Path.{◌≡◌, refl, sym, ap, subst}
use mathlib.Core.Logic.{◌⊎◌, inl, inr}
use mathlib.Core.Bool.{Bool, true, false, cond, ◌&&◌, false≢true}
use mathlib.Core.List.{List, Memᴰ}
use Prim.Native.Nat.{ℕ, ◌*◌, ◌≤◌, ◌<◌}
use native.Mathlib.Omega.{arith}
use lib.ListN.{length, get_or}
use lib.Dec.{eqb}
use borrow.Author.Tests.{eqb-true}
use Rattle.base.proofs.Truth.{and_iff, one_true}
use Rattle.base.specs.Tabulate.{tabulate}
use Rattle.base.specs.Sum.{sum}
use Rattle.tctl.specs.Chart.{states}
use Rattle.base.proofs.Tabulate.{mem_tabulate}
use Rattle.base.specs.Every.{every}
use Rattle.model.specs.Engine.{round, rounds, lower, raise, least, greatest}
use Rattle.model.specs.Decide.{some_row, waits, plain_row, sure_row, all_row, answers, holds}
use Rattle.model.specs.TimedLoop.{leads}
use Rattle.base.proofs.Every.{every_true}
use Rattle.model.proofs.Decide.{holds_iff}
use Rattle.outcome.specs.Refusal.{lowest, first, success}
use Rattle.outcome.proofs.First.{success_iff, zero_iff}
use Rattle.chart.specs.Bytes.{arrow_words, chart_of, state_count}
use Rattle.chart.specs.Refusals.{left_by, chart_table}
use Rattle.rule.specs.Bytes.{node_words, node_count}
use Rattle.rule.specs.Form.{form_of}
use Rattle.rule.specs.Refusals.{wrong_bound, wrong_kind, wrong_a, malformed, not_lower, uses_in, uses, rule_table, rule_refusal}
use Rattle.rule.specs.Formula.{formula_by, formula_of}
use Rattle.loops.specs.Refusal.{loop_row, accepted_table, accepted_refusal}
use Rattle.loops.specs.Accepted.{AcceptedChart}
use Rattle.loops.proofs.Accepted.{accepted_numbered, unmet_iff}
use Rattle.judge.specs.Judge.{size_of}
use Rattle.call_check.specs.Check.{check_refusal}
use Rattle.claim_demands.proofs.Judge.{judge_accepts}
use Rattle.claim_items.specs.Items.{Item, items}
use Rattle.claim_items.specs.ItemRight.{ItemRight}

-- chart and rule are accepted, there is a mark for each state, and each is 1 just where the engine says yes
passes : Item → Bool
passes it =
    let G = chart_of it.chart in
    let f = formula_of it.rule in
    eqb (accepted_refusal it.chart).number 0 &&
    eqb (rule_refusal it.rule).number 0 &&
    eqb (length it.marks) (states G) &&
    every (λ s. eqb (get_or it.marks s 0) (cond (holds G f s) 1 0)) (tabulate (states G) (λ s. s))

all_pass : every passes items ≡ true
unfolding
    passes items every tabulate chart_of arrow_words accepted_table chart_table loop_row leads left_by lowest first
    form_of node_words wrong_bound wrong_kind wrong_a malformed not_lower uses_in uses sum rule_table formula_by
    round rounds lower raise least greatest some_row waits plain_row sure_row all_row answers
all_pass = refl

one_or_zero : (b : Bool) → (◌≡◌ {A = ℕ} (cond b 1 0) 1) ⊎ (◌≡◌ {A = ℕ} (cond b 1 0) 0)
one_or_zero true = inl refl
one_or_zero false = inr refl

-- the number 0 is success
accepted_number : (s : List ℕ) → (accepted_refusal s).number ≡ 0 → AcceptedChart s
accepted_number s z = (unmet_iff s).0 ((zero_iff (accepted_table s) (accepted_numbered s)).0 z)

rule_number : (s : List ℕ) → (rule_refusal s).number ≡ 0 → rule_refusal s ≡ success
unfolding rule_table
rule_number s z = (success_iff (rule_table s) tt).1 ((zero_iff (rule_table s) tt).0 z)

right : (it : Item) → passes it ≡ true → ItemRight it
unfolding passes
right it ok =
    let G = chart_of it.chart in
    let f = formula_of it.rule in
    let mark : ℕ → Bool = λ s. eqb (get_or it.marks s 0) (cond (holds G f s) 1 0) in
    let a = (and_iff _ (every mark (tabulate (states G) (λ s. s)))).0 ok in
    let b = (and_iff _ (eqb (length it.marks) (states G))).0 a.0 in
    let d = (and_iff (eqb (accepted_refusal it.chart).number 0) (eqb (rule_refusal it.rule).number 0)).0 b.0 in
    let acc = accepted_number it.chart (eqb-true _ _ d.0) in
    let is : (s : ℕ) → s < states G → get_or it.marks s 0 ≡ cond (holds G f s) 1 0 =
    λ s l.
    let asked = mem_tabulate (states G) (λ s. s) s l in
    eqb-true _ _ (every_true mark (tabulate (states G) (λ s. s)) a.1 asked) in
    record {
      chart = acc;
      rule = rule_number it.rule (eqb-true _ _ d.1);
      each = eqb-true _ _ b.1;
      digit = λ s l. subst (λ v. (v ≡ 1) ⊎ (v ≡ 0)) (sym (is s l)) (one_or_zero (holds G f s));
      marked = λ s l m. (holds_iff G acc.meaning f s l).0 (one_true (holds G f s) (omega (arith, is s l)));
      unmarked = λ s l m h.
          omega (arith, is s l, ap {B = ℕ} (λ b. cond b 1 0) ((holds_iff G acc.meaning f s l).1 h));
    }

-- every item of the list is right
pub items_right : (it : Item) → Memᴰ it items → ItemRight it
items_right it m = right it (every_true passes items all_pass m)

-- "Ruled out: a checker that refuses every chart (items 1 to 13 are accepted ..)": wherever there is room
pub items_accepted :
    (it : Item) → Memᴰ it items → (marks scratch : List ℕ) →
    node_count it.rule * state_count it.chart ≤ length marks →
    size_of false it.chart it.rule ≤ length scratch →
    check_refusal it.chart it.rule marks scratch ≡ success
items_accepted it m marks scratch table room =
    let r = items_right it m in
    (judge_accepts false it.chart it.rule marks scratch).1
    record {
      chart_accepted = r.chart;
      rule_accepted = r.rule;
      bounds = λ e. absurd (false≢true e);
      table = table;
      room = room;
    }
