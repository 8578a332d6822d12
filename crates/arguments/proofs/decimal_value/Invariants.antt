use mathlib.Core.Path.{◌≡◌}
use Prim.Native.Nat.{◌≤◌}
use lib.ListN.{drop}
use Rattle.arguments.specs.Argument.{out_of_range, number_from, argument_of}
use Rattle.arguments.proofs.decimal_value.Given as goal

-- Invariant: the text from the index on, after digits that stand for the value, makes the same number as all of it.
abbrev pub invariant-loop-byte : goal.invariant-loop-byte
invariant-loop-byte l =
    (l.value ≤ out_of_range) × (argument_of l.text ≡ number_from l.value (drop l.byte-index l.text))
