use Rattle.minute_rows.specs.Filled.{Kept}
use Rattle.minute_rows.proofs.Growing.{missing}
use Rattle.minute_rows.proofs.rounds.Given as goal

-- Invariant: the arrows were followed, any number of times. Each time before the last a state more makes it.
abbrev pub invariant-loop : goal.invariant-loop
invariant-loop l =
    Kept l.n l.minute 0 l.front l.words l.beyond l.initial.numbers l.numbers

abbrev pub decreases-loop : goal.decreases-loop
decreases-loop l = missing l.n l.minute l.beyond l.numbers
