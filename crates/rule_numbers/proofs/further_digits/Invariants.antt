use mathlib.Core.Path.{◌≡◌}
use Prim.Native.Nat.{◌≤◌}
use lib.ListN.{drop}
use Rattle.rule_numbers.specs.Number.{further}
use Rattle.rule_numbers.proofs.further_digits.Given as goal

-- Invariant: from here on the number comes to what it comes to from the first place.
abbrev pub invariant-loop-end : goal.invariant-loop-end
invariant-loop-end l =
    (further l.most l.n (drop l.i l.text) l.i ≡ further l.most l.value (drop l.end l.text) l.end) × (l.value ≤ l.most)
