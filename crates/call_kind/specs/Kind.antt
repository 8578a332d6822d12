-- The call kind of rule. The quoted words are of 01, "Calls".
use Rattle.std.specs.Prelude.{◌≡◌, Bool, true, false, ◌&&◌, List, ℕ, eqb}
use Rattle.tctl.specs.Kind.{Runs, all_runs, some_run, is_of}
use Rattle.rule.specs.Refusals.{rule_refusal}
use Rattle.rule.specs.Formula.{formula_of}
use Rattle.call_kind.specs.declared.Kind.{Kind}
use Rattle.call_kind.specs.declared.Kind.TheVariants.{AllRuns, SomeRun, Both, Neither}
use Rattle.call_kind.specs.declared.KindAnswer.{KindAnswer}

-- "all-runs, some-run, both or neither": whether an answer is of a kind
abbrev pub says : Kind → Runs → Bool
says AllRuns all_runs = true
says AllRuns some_run = false
says SomeRun all_runs = false
says SomeRun some_run = true
says Both k = true
says Neither k = false

-- the answer that is of the kinds given
abbrev pub kind_for : Bool → Bool → Kind
kind_for true true = Both
kind_for true false = AllRuns
kind_for false true = SomeRun
kind_for false false = Neither

-- a rule is of a kind if it is accepted and its formula is: "neither on a refusal"
abbrev pub rule_is : List ℕ → Runs → Bool
rule_is s k = eqb (rule_refusal s).number 0 && is_of k (formula_of s)

-- the whole answer
pub record Answered (s : List ℕ) (r : KindAnswer) : Type 0 where
  pub outcome : r.outcome ≡ rule_refusal s
  pub kind : (k : Runs) → says r.kind k ≡ rule_is s k
