-- The answer of the call kind of rule: on a refusal, and of an accepted rule.
use mathlib.Core.Path.{◌≡◌, refl, sym, ap, ◌∙◌}
use mathlib.Core.Bool.{Bool, true, false, ◌&&◌}
use mathlib.Core.List.{List}
use Prim.Native.Nat.{ℕ}
use borrow.Author.Tests.{eq-eqb, ne_eqb}
use Rattle.tctl.specs.Kind.{Runs, all_runs, some_run, is_of}
use Rattle.rule.specs.Refusals.{rule_refusal}
use Rattle.rule.specs.Formula.{formula_of}
use Rattle.call_kind.specs.Kind.{says, kind_for, rule_is, Answered}
use Rattle.call_kind.specs.declared.Kind.TheVariants.{Neither}
use Rattle.call_kind.specs.declared.KindAnswer.{KindAnswer}

says_all : (a b : Bool) → says (kind_for a b) all_runs ≡ a
says_all true true = refl
says_all true false = refl
says_all false true = refl
says_all false false = refl

says_some : (a b : Bool) → says (kind_for a b) some_run ≡ b
says_some true true = refl
says_some true false = refl
says_some false true = refl
says_some false false = refl

module _ (s : List ℕ) {r : KindAnswer} (out : r.outcome ≡ rule_refusal s) where
  pub refused : (r.outcome.number ≡ 0 → ⊥) → r.kind ≡ Neither → Answered s r
  refused nonzero e =
      let h : (rule_refusal s).number ≡ 0 → ⊥ = λ z. nonzero (ap (λ o. o.number) out ∙ z) in
      record {
        outcome = out;
        kind = λ k. ap (λ x. says x k) e ∙ sym (ap (λ b. b && is_of k (formula_of s)) (ne_eqb _ _ h));
      }

  pub answered :
      {a b : Bool} → r.outcome.number ≡ 0 →
      a ≡ is_of all_runs (formula_of s) → b ≡ is_of some_run (formula_of s) → r.kind ≡ kind_for a b → Answered s r
  answered {a} {b} z p q e =
      record { outcome = out; kind = kind }
    where
      accepted : (k : Runs) → is_of k (formula_of s) ≡ rule_is s k
      accepted k = sym (ap (λ b. b && is_of k (formula_of s)) (eq-eqb _ _ (ap (λ o. o.number) (sym out) ∙ z)))

      kind : (k : Runs) → says r.kind k ≡ rule_is s k
      kind all_runs = ap (λ x. says x all_runs) e ∙ says_all a b ∙ p ∙ accepted all_runs
      kind some_run = ap (λ x. says x some_run) e ∙ says_some a b ∙ q ∙ accepted some_run

-- of an accepted rule the answer is of the kinds of its formula
pub kind_of_formula :
    (s : List ℕ) {r : KindAnswer} → Answered s r → r.outcome.number ≡ 0 →
    (k : Runs) → says r.kind k ≡ is_of k (formula_of s)
kind_of_formula s {r} h z k =
    let e : (rule_refusal s).number ≡ 0 = ap (λ o. o.number) (sym h.outcome) ∙ z in
    h.kind k ∙ ap (λ b. b && is_of k (formula_of s)) (eq-eqb _ _ e)
