-- What crosses to C as numbers.
use Rattle.std.specs.Prelude.{◌≡◌, Bool, cond, List, ℕ, Option, Some, None}
use Rattle.tctl.specs.Kind.{all_runs, some_run}
use Rattle.rule.specs.Refusals.{rule_refusal}
use Rattle.chart.specs.declared.ArrowWords.{ArrowWords}
use Rattle.call_kind.specs.declared.Kind.{Kind}
use Rattle.call_kind.specs.declared.Kind.TheVariants.{AllRuns, SomeRun, Both, Neither}
use Rattle.call_kind.specs.declared.KindAnswer.{KindAnswer}
use Rattle.call_kind.specs.Kind.{kind_for, rule_is}
use Rattle.coded.specs.declared.CodedAnswer.{CodedAnswer}
use Rattle.coded.specs.declared.CodedArrow.{CodedArrow}

-- "all-runs, some-run, both or neither", as a number
abbrev pub code : Kind → ℕ
code Neither = 0
code AllRuns = 1
code SomeRun = 2
code Both = 3

-- an answer, with the kind as its code
abbrev pub coded_answer : KindAnswer → CodedAnswer
coded_answer answer = record { outcome = answer.outcome; kind = code answer.kind }

-- kind of rule's whole answer: the rule's outcome, and the code of the kinds it is of
pub record Coded (s : List ℕ) (r : CodedAnswer) : Type 0 where
  pub outcome : r.outcome ≡ rule_refusal s
  pub kind : r.kind ≡ code (kind_for (rule_is s all_runs) (rule_is s some_run))

-- "a choice (overview or detail)": the length of the chosen table, the detail's for true
abbrev pub size_of : Bool → ℕ → ℕ → ℕ
size_of choice overview detail = cond choice detail overview

-- what the chart reader "hands out", or "finished"
abbrev pub coded_arrow : Option ArrowWords → CodedArrow
coded_arrow (Some a) = record { found = 1; start = a.start; end = a.end; fewest = a.fewest; most = a.most }
coded_arrow None = record { found = 0; start = 0; end = 0; fewest = 0; most = 0 }
