use Prim.Native.Nat.{◌*◌}
use Rattle.model.specs.Marks.{bit, mark}
use Rattle.base.specs.Entries.{Entries}
use Rattle.fill.specs.Fill.{combine}
use Rattle.fill.proofs.fill.Given as goal

-- Invariant: the marks before s are written.
abbrev pub invariant-loop-s : goal.invariant-loop-s
invariant-loop-s l =
    Entries (l.t * l.n) l.s
    (λ v. bit (combine l.connective (mark l.n l.initial.marks l.a v) (mark l.n l.initial.marks l.b v)))
    l.initial.marks l.marks
