-- What is printed follows from the answer of show.
use mathlib.Core.Path.{sym, ap, ◌∙◌}
use native.Mathlib.Omega.{arith}
use lib.Dec.{eqb}
use Rattle.outcome.specs.declared.Outcome.{Outcome}
use Rattle.append.proofs.Append.{at_front_counts}
use Rattle.rule.specs.declared.NodeWords.{NodeWords}
use Rattle.call_show.proofs.Passed.{shown_node_whole}
use Rattle.why_call.proofs.Told.{written_size, shown_told}
use Rattle.why_call.proofs.report_why.Goals as goal

pub node_at-words-requires : goal.node_at-words-requires
node_at-words-requires c =
    let promised = c.show-answer.ensures in
    shown_node_whole _ _ _ _ _ _ _ (ap (λ (o : Outcome). o.number) (sym promised.answer) ∙ c.if-outcome-ne0.false)

pub list_run-printed-requires : goal.list_run-printed-requires
list_run-printed-requires c =
    let t = c.show-answer.ensures in
    let size = written_size t c.if-outcome-ne0.false in
    let taken = (at_front_counts t.front).1 in
    (omega (arith, size.0, taken), omega (arith, size.1, taken), c.requires)

pub returns : goal.returns
returns c =
    let e = c.node_at-words.ensures.0 in
    shown_told c.show-answer.ensures c.if-outcome-ne0.false (ap (λ (w : NodeWords). eqb w.operation 6) e)
    (ap (λ (w : NodeWords). w.c) e) c.list_run-printed.ensures
