-- Any two marks are one of the four cases.
use mathlib.Core.Bool.{Bool, true, false}
use Rattle.initial.specs.declared.Initial.{Initial}
use Rattle.initial.specs.declared.Four.{Four}
use Rattle.initial.specs.Initial.{Initially, one_of, Foreseen}
use Rattle.initial.proofs.four_of.Goals as goal

foreseen :
    {initial : Initial} {four : Four} → Initially initial false false four.neither →
    Initially initial true false four.first → Initially initial false true four.second →
    Initially initial true true four.both → Foreseen initial four
unfolding one_of
foreseen {initial} {four} neither first second both = record { each = each }
  where
    each : (p q : Bool) → Initially initial p q (one_of four p q)
    each false false = neither
    each true false = first
    each false true = second
    each true true = both

pub returns : goal.returns
returns c = foreseen c.initial_of.ensures c.initial_of-2.ensures c.initial_of-3.ensures c.initial_of-4.ensures
