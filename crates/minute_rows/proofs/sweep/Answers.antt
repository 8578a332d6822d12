-- Invariant: the arrows of the words so far were followed.
use mathlib.Core.Path.{subst}
use mathlib.Core.Logic.{inl, inr}
use native.Mathlib.Omega.{arith}
use Rattle.moves.proofs.Part.{part_length, part_read}
use Rattle.minute_rows.specs.Filled.{Swept}
use Rattle.minute_rows.proofs.Sweeping.{swept_followed}
use Rattle.minute_rows.proofs.sweep.Goals.{then-follow, else-follow}
use Rattle.minute_rows.proofs.sweep.Goals as goal

pub loop-word-preserved : goal.loop-word-preserved
loop-word-preserved c =
    let read = part_read c.args.words.now c.requires.order c.requires.inside _ c.loop-word-test.true in
    swept_followed c.requires (omega arith) read.0 (omega arith) c.loop-word.invariant read.1 c.follow.ensures
    (elim c.if-follow.branch [
      | then-follow w ↦ inl (w.if-follow.true, w.new-is)
      | else-follow w ↦ inr (w.if-follow.false, w.new-is)
    ])

pub returns : goal.returns
returns c =
    let a = c.args in
    let l = c.loop-word in
    subst (λ i. Swept a.n a.minute a.from i a.words.now a.beyond.now l.new a.numbers.now l.numbers)
    (omega (arith, part_length a.words.now c.requires.order c.requires.inside)) l.invariant
