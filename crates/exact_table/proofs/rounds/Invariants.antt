use Rattle.base.specs.Sum.{total}
use Rattle.exact_table.specs.Lowered.{Kept}
use Rattle.exact_table.proofs.rounds.Given as goal

-- Invariant: the arrows were tried, any number of times. Each time before the last a number falls, and their sum with it.
abbrev pub invariant-loop : goal.invariant-loop
invariant-loop l =
    Kept l.n l.minute 0 l.front l.words l.initial.table l.table

abbrev pub decreases-loop : goal.decreases-loop
decreases-loop l = total (λ v. v) l.table
