-- The answer of a call that refuses by a table: its first row that is met.
use mathlib.Core.Path.{◌≡◌, sym, subst}
use mathlib.Core.Logic.{◌↔◌}
use mathlib.Core.List.{List}
use Rattle.outcome.specs.declared.Outcome.{Outcome}
use Rattle.outcome.specs.Refusal.{Row, success, outcome, first}
use Rattle.outcome.specs.Met.{FirstMet}
use Rattle.outcome.proofs.First.{first_iff}
use Rattle.claim_demands.specs.Answers.{Answers}

pub answers :
    (table : List Row) {acceptable : Type 0} {r : Outcome} → r ≡ first table →
    (first table ≡ success) ↔ acceptable → Answers table acceptable r
answers table {acceptable} e accepts =
    record {
      refuses = λ c n p l. subst (λ o. (o ≡ outcome n p c) ↔ FirstMet table c n p) (sym e) (first_iff table c n p l);
      accepts = subst (λ o. (o ≡ success) ↔ acceptable) (sym e) accepts;
    }
