-- What it is to make it while minutes are left, and after. The quoted words are of 02, paper 2.
use Rattle.std.specs.Prelude.{◌≡◌, Bool, true, false, ℕ, zero, suc, ◌-◌}
use Rattle.tctl.specs.Chart.{Chart}
use Rattle.tctl.specs.Run.{Step}

-- What is asked of a state with m minutes left: whether it makes it at once, and whether it may go on; and, when more
-- minutes than were left have passed, whether it makes it there.
pub record Task : Type 0 where
  pub now : ℕ → ℕ → Bool
  pub go : ℕ → ℕ → Bool
  pub beyond : ℕ → Bool

-- Rows are counted by what is left: row m + 1 has m minutes left, and row 0 is beyond. So a step of d minutes leads from
-- row r to row r - d, which is 0 where d is more than is left.
abbrev pub stops_at : Task → ℕ → ℕ → Bool
stops_at w zero s = w.beyond s
stops_at w (suc m) s = w.now m s

abbrev pub goes_at : Task → ℕ → ℕ → Bool
goes_at w zero s = false
goes_at w (suc m) s = w.go m s

-- "for each minute left, 0 to the bound, which states make it": in row r, s makes it
pub data Makes (G : Chart) (w : Task) : ℕ → ℕ → Type 0 where
  stops : {r s : ℕ} → stops_at w r s ≡ true → Makes G w r s
  goes : {r s d t : ℕ} → goes_at w r s ≡ true → Step G s d t → Makes G w (r - d) t → Makes G w r s
