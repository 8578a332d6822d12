use mathlib.Core.Path.{◌≡◌}
use mathlib.Core.Bool.{false}
use Prim.Native.Nat.{ℕ, ◌≤◌, ◌<◌, ◌-◌}
use lib.Dec.{leb}
use Rattle.map.specs.Bytes.{entry}
use Rattle.map.proofs.entry_refusal.Given as goal

-- Invariant: every entry before d names an overview state.
abbrev pub invariant-loop-d : goal.invariant-loop-d
invariant-loop-d l =
    (v : ℕ) → v < l.d → leb l.k (entry l.map v) ≡ false
