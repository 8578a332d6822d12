use Prim.Native.Nat.{◌+◌}
use Rattle.exact_table.specs.Lowered.{Swept}
use Rattle.exact_table.proofs.sweep.Given as goal

-- Invariant: the arrows of the words so far were tried.
abbrev pub invariant-loop-word : goal.invariant-loop-word
invariant-loop-word l =
    Swept l.n l.longest l.minute l.from (l.from + l.word-index) l.words l.new l.initial.table l.table
