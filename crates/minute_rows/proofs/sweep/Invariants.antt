use Prim.Native.Nat.{◌+◌}
use Rattle.minute_rows.specs.Filled.{Swept}
use Rattle.minute_rows.proofs.sweep.Given as goal

-- Invariant: the arrows of the words so far were followed.
abbrev pub invariant-loop-word : goal.invariant-loop-word
invariant-loop-word l =
    Swept l.n l.minute l.from (l.from + l.word-index) l.words l.beyond l.new l.initial.numbers l.numbers
