use mathlib.Core.Path.{◌≡◌}
use Prim.Native.Nat.{ℕ, ◌<◌}
use lib.ListN.{length}
use Rattle.model.specs.Engine.{num}
use Rattle.model.specs.Marks.{mark}
use Rattle.hints.specs.Values.{tested_of}
use Rattle.initial.specs.Initial.{one_of}
use Rattle.initial.proofs.fill_numbers.Given as goal

-- Invariant: the numbers before s are written, each as the one of four for its marks.
abbrev pub invariant-loop-s : goal.invariant-loop-s
invariant-loop-s l =
    (length l.numbers ≡ l.n) ×
    ((v : ℕ) → v < l.s →
    tested_of (num l.numbers v) ≡ one_of l.four (mark l.n l.marks l.a v) (mark l.n l.marks l.b v))
