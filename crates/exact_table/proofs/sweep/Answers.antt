-- Invariant: the arrows of the words so far were tried.
use mathlib.Core.Path.{subst}
use mathlib.Core.Logic.{inl, inr}
use native.Mathlib.Omega.{arith}
use Rattle.moves.proofs.Part.{part_length, part_read}
use Rattle.exact_table.specs.Lowered.{Swept}
use Rattle.exact_table.proofs.Sweeping.{swept_lowered}
use Rattle.exact_table.proofs.sweep.Goals.{then-lower, else-lower}
use Rattle.exact_table.proofs.sweep.Goals as goal

pub loop-word-preserved : goal.loop-word-preserved
loop-word-preserved c =
    let read = part_read c.args.words.now c.requires.order c.requires.inside _ c.loop-word-test.true in
    swept_lowered c.requires (omega arith) read.0 (omega arith) c.loop-word.invariant read.1 c.lower.ensures
    (elim c.if-lower.branch [
      | then-lower w ↦ inl (w.if-lower.true, w.new-is)
      | else-lower w ↦ inr (w.if-lower.false, w.new-is)
    ])

pub returns : goal.returns
returns c =
    let a = c.args in
    let l = c.loop-word in
    subst (λ i. Swept a.n a.longest a.minute a.from i a.words.now l.new a.table.now l.table)
    (omega (arith, part_length a.words.now c.requires.order c.requires.inside)) l.invariant
