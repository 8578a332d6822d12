use mathlib.Core.Path.{◌≡◌}
use Prim.Native.Nat.{ℕ, ◌<◌}
use lib.ListN.{length}
use Rattle.model.specs.Engine.{num}
use Rattle.hints.specs.Values.{tested_of}
use Rattle.loops.proofs.begin.Given as goal

-- Invariant: the numbers before x have the value 1 and no side.
abbrev pub invariant-loop-x : goal.invariant-loop-x
invariant-loop-x l =
    (length l.numbers ≡ length l.initial.numbers) × ((v : ℕ) → v < l.x-index → tested_of (num l.numbers v) ≡ 1)
