-- What the numbers that a table can answer have in common: its rows' numbers have it, and 0.
use mathlib.Core.Path.{◌≡◌}
use mathlib.Core.Bool.{Bool, true, ◌&&◌}
use mathlib.Core.List.{List, [], ◌∷◌}
use mathlib.Core.Option.{none, some}
use Prim.Native.Nat.{ℕ, ◌≤◌}
use native.Mathlib.Omega.{arith}
use lib.Dec.{leb}
use borrow.Author.Tests.{leb-true, le-leb}
use Rattle.base.proofs.Truth.{and_iff}
use Rattle.outcome.specs.Refusal.{Row, row, first}

-- the test says yes of every row's number
abbrev pub each : (ℕ → Bool) → List Row → Bool
each good [] = true
each good (row e n p ∷ rows) = good n && each good rows

pub number_each :
    (good : ℕ → Bool) (rows : List Row) → good 0 ≡ true → each good rows ≡ true → good (first rows).number ≡ true
unfolding first
number_each good [] z h = z
number_each good (row e n none ∷ rows) z h = number_each good rows z ((and_iff (good n) (each good rows)).0 h).1
number_each good (row e n (some p) ∷ rows) z h = ((and_iff (good n) (each good rows)).0 h).0

pub number_le : (k : ℕ) (rows : List Row) → each (λ n. leb n k) rows ≡ true → (first rows).number ≤ k
number_le k rows e = leb-true (first rows).number k (number_each (λ n. leb n k) rows (le-leb 0 k (omega arith)) e)
