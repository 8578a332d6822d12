use Prim.Native.Nat.{◌-◌}
use Rattle.exact_table.specs.Rows.{left_in}
use Rattle.exact_walk.proofs.Minutes.{Missed}
use Rattle.exact_walk.proofs.first_minutes.Given as goal

-- Invariant: no duration before d leads there.
abbrev pub invariant-loop-d : goal.invariant-loop-d
invariant-loop-d l =
    Missed (λ d. left_in l.n l.table (l.minutes - d) l.a.end) l.left l.a.fewest l.d
