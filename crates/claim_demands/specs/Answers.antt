-- What a call answers that refuses by a table. The quoted sentences are of 01, "Refused with number and place".
use Rattle.std.specs.Prelude.{◌≡◌, ◌↔◌, List, ℕ, ◌<◌}
use Rattle.outcome.specs.declared.Outcome.{Outcome}
use Rattle.outcome.specs.Refusal.{Row, success, outcome}
use Rattle.outcome.specs.Met.{FirstMet}

-- r is the answer by this table, which lets pass just what is acceptable
pub record Answers (table : List Row) (acceptable : Type 0) (r : Outcome) : Type 0 where
  -- "each number is returned if and only if its condition is met and none tested before it is"
  pub refuses : (e n p : ℕ) → 0 < n → (r ≡ outcome n p e) ↔ FirstMet table e n p
  -- "Success is number 0, place 0.", and no paper was wrong
  pub accepts : (r ≡ success) ↔ acceptable
