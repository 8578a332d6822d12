-- Short and the rule of item 4 are, byte for byte, those of 01's listing, and so are the marks, by check or by count.
use mathlib.Core.Path.{◌≡◌, refl, ap, ◌∙◌}
use mathlib.Core.Logic.{inl}
use mathlib.Core.Bool.{true}
use mathlib.Core.List.Memᴰ
use mathlib.Core.List.{List, [], ◌∷◌, ◌++◌}
use Prim.Native.Nat.{ℕ}
use native.Mathlib.Omega.{arith}
use lib.ListN.{length, drop, replicate}
use Rattle.base.specs.Tabulate.{tabulate}
use Rattle.model.specs.Engine.{round, rounds, raise, greatest}
use Rattle.model.specs.Decide.{waits, all_row, answers}
use Rattle.outcome.specs.declared.Outcome.{Outcome}
use Rattle.outcome.specs.Refusal.{lowest, success}
use Rattle.outcome.specs.Met.{end, passed}
use Rattle.chart.specs.Bytes.{arrow_words, chart_of}
use Rattle.rule.specs.Bytes.{node_words}
use Rattle.rule.specs.Refusals.{bound_row}
use Rattle.rule.specs.Formula.{formula_by}
use Rattle.judge.specs.Judge.{marks_of}
use Rattle.judge.proofs.Chain.{own_iff}
use Rattle.judge.proofs.Promise.{accepted_marks, cleared_scratch}
use Rattle.call_count.specs.Count.{count_refusal, Counted}
use Rattle.claim_demands.proofs.Judge.{judge_accepts}
use Rattle.claim_items.specs.Items.{short, true_until, A, at_most, items}
use Rattle.claim_items.specs.Listed.{listed_chart, listed_rule}
use Rattle.claim_items.proofs.Items.{items_right}

pub short_listed : short ≡ listed_chart
short_listed = refl

pub rule_listed : true_until A 2 at_most 13 ≡ listed_rule
rule_listed = refl

-- "0 111", "1 001", "2 011"
pub marks_listed : marks_of listed_chart listed_rule ≡ 1 ∷ 1 ∷ 1 ∷ 0 ∷ 0 ∷ 1 ∷ 0 ∷ 1 ∷ 1 ∷ []
unfolding
    marks_of chart_of arrow_words tabulate node_words formula_by answers all_row waits greatest rounds round raise
marks_listed = refl

-- item 4's chart and rule are accepted, and 13 is no bound above 255
count_accepts :
    (scratch : List ℕ) → length scratch ≡ 769 →
    count_refusal listed_chart listed_rule (replicate 10 7) scratch ≡ success
unfolding items bound_row lowest node_words
count_accepts scratch e =
    let r = items_right _ (Memᴰ.tail (Memᴰ.tail (Memᴰ.tail (Memᴰ.head refl)))) in
    (judge_accepts true listed_chart listed_rule (replicate 10 7) scratch).1
    record {
      chart_accepted = r.chart;
      rule_accepted = r.rule;
      bounds = (own_iff true listed_rule).0 (passed _ 63 end);
      table = omega (arith);
      room = omega (arith, e);
    }

-- count on them, lent 10 bytes of 07 and 769 numbers: these marks and 768 zeros, and after either what was lent
pub count_listed :
    (scratch : List ℕ) → length scratch ≡ 769 → (r : Outcome) (newMarks new_scratch : List ℕ) →
    Counted listed_chart listed_rule (replicate 10 7) scratch r newMarks new_scratch →
    (r ≡ success) × (newMarks ≡ 1 ∷ 1 ∷ 1 ∷ 0 ∷ 0 ∷ 1 ∷ 0 ∷ 1 ∷ 1 ∷ 7 ∷ []) ×
    (new_scratch ≡ replicate 768 0 ++ drop 768 scratch)
count_listed scratch e r newMarks new_scratch c =
    let a = c.answer ∙ count_accepts scratch e in
    let z = ap (λ (o : Outcome). o.number) a in
    (a, accepted_marks c z ∙ ap (λ m. m ++ 7 ∷ []) marks_listed, cleared_scratch c (inl z))
