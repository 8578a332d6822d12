use Prim.Native.Nat.{◌-◌}
use Rattle.exact_table.specs.Rows.{left_in}
use Rattle.exact_table.proofs.Least.{LeastOf}
use Rattle.exact_table.proofs.least_after.Given as goal

-- Invariant: it is the least of the durations before d.
abbrev pub invariant-loop-d : goal.invariant-loop-d
invariant-loop-d l =
    LeastOf (λ d. left_in l.n l.table (l.minute - d) l.w.end) l.w.fewest l.last l.d l.least
