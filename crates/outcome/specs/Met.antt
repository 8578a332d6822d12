-- Which row of a table is the first that is met. The quoted words are of 01, "Refused with
-- number and place".
use Rattle.std.specs.Prelude.{◌≡◌, List, [], ◌∷◌, ◌++◌, ℕ}
use Rattle.std.proofs.Math.Option.{none, some}
use Rattle.outcome.specs.Refusal.{Row, row}

-- no row is met
pub data Unmet : List Row → Type 0 where
  end : Unmet []
  passed : (e n : ℕ) {rows : List Row} → Unmet rows → Unmet (row e n none ∷ rows)

-- "its condition is met and none tested before it is": the row with this entry and this number, and its place
pub record FirstMet (rows : List Row) (e n p : ℕ) : Type 0 where
  pub before : List Row
  pub after : List Row
  pub split : rows ≡ before ++ row e n (some p) ∷ after
  pub unmet : Unmet before
