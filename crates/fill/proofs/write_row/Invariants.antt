use Prim.Native.Nat.{◌*◌}
use Rattle.fill.specs.Written.{WrittenBy}
use Rattle.fill.proofs.write_row.Given as goal

-- Invariant: the marks before s are written.
abbrev pub invariant-loop-s : goal.invariant-loop-s
invariant-loop-s g l = WrittenBy (l.t * l.n) l.s (goal.F-post g l.f) l.initial.marks l.marks
