-- A refusal is handed on; past it the rule is accepted, and its last node is judged by the two tests.
use mathlib.Core.Path.{◌≡◌, refl, sym, ap, ◌∙◌}
use mathlib.Core.List.{List}
use Prim.Native.Nat.{ℕ, ◌-◌}
use native.Mathlib.Omega.{arith}
use Rattle.outcome.specs.declared.Outcome.{Outcome}
use Rattle.outcome.proofs.First.{fault_number}
use Rattle.tctl.specs.Kind.{all_runs, some_run, is_of}
use Rattle.rule.specs.Bytes.{node_count}
use Rattle.rule.specs.Shape.{Shape}
use Rattle.rule.specs.Refusals.{rule_refusal}
use Rattle.rule.specs.Formula.{formula_at}
use Rattle.rule.proofs.Accepted as rule
use Rattle.call_kind.proofs.Answer.{refused, answered}
use Rattle.call_kind.proofs.kind_of_rule.Goals as goal

-- past the test the rule is accepted
passed : {o : Outcome} (s : List ℕ) → o ≡ rule_refusal s → o.number ≡ 0 → (rule_refusal s).number ≡ 0
passed s e z = ap (λ o. o.number) (sym e) ∙ z

shape : {o : Outcome} (s : List ℕ) → o ≡ rule_refusal s → o.number ≡ 0 → Shape s (node_count s)
shape s e z = (rule.accepted s (passed s e z)).shape

pub returns-in-Err : goal.returns-in-Err
returns-in-Err c =
    let told = c.from.ensures in
    refused _ (told ∙ c.in-Err.ensures) (λ z. fault_number _ (sym (ap (λ (o : Outcome). o.number) told) ∙ z)) refl

pub node_count-last-requires : goal.node_count-last-requires
node_count-last-requires c =
    let h = shape c.args.rule.now c.in_default.ensures refl in
    omega (arith, h.whole, h.some_nodes)

pub overflow_sub-last : goal.overflow_sub-last
overflow_sub-last c = omega (arith, (shape c.args.rule.now c.in_default.ensures refl).some_nodes)

pub all_runs-requires : goal.all_runs-requires
all_runs-requires c =
    let told = c.in_default.ensures in
    let zero = refl in
    (passed c.args.rule.now told zero, omega (arith, (shape c.args.rule.now told zero).some_nodes))

pub some_run-requires : goal.some_run-requires
some_run-requires c =
    let told = c.in_default.ensures in
    let zero = refl in
    (passed c.args.rule.now told zero, omega (arith, (shape c.args.rule.now told zero).some_nodes))

pub returns : goal.returns
returns c =
    let e = ap (λ k. formula_at c.args.rule.now (k - 1)) c.node_count-last.ensures.0 in
    answered _ (c.accepted.ensures ∙ c.in_default.ensures) (ap (λ (o : Outcome). o.number) c.accepted.ensures) (c.all_runs.ensures ∙ ap (is_of all_runs) e)
    (c.some_run.ensures ∙ ap (is_of some_run) e) c.kind_for-kind.ensures
