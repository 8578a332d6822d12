-- The call row. The quoted sentences are of 01, "Calls".
use Rattle.std.specs.Prelude.{◌≡◌, cond, ◌&&◌, List, ℕ, ◌+◌, ◌*◌, take, drop, leb, ltb}
use Rattle.std.specs.Borrow.{Bor}
use Rattle.call_row.specs.declared.Place.{Place}
use Rattle.call_row.specs.declared.Choice.{Choice}
use Rattle.call_row.specs.declared.Choice.TheVariants.{Overview, Detail}

-- "a choice (overview or detail)"
abbrev pub chosen : Choice → Bor (List ℕ) → Bor (List ℕ) → Bor (List ℕ)
chosen Overview overview detail = overview
chosen Detail overview detail = detail

-- where row t, the n bytes from t × n on, lies in a table of that size; "an empty part of that table if the row doesn't
-- lie wholly in it. n = 0 gives the empty part."
abbrev pub place_of : ℕ → ℕ → ℕ → Place
place_of size n t =
    cond (ltb 0 n && leb (t * n + n) size) (record { start = t * n; size = n }) (record { start = 0; size = 0 })

-- "the part of the chosen table ..., itself and not a copy": the table's bytes there, behind its own pointer moved on
pub record Part (table part : Bor (List ℕ)) (place : Place) : Type 0 where
  pub bytes : part.now ≡ take place.size (drop place.start table.now)
  pub pointer : part.ref_ptr ≡ (table.ref_ptr.0, table.ref_ptr.1 + place.start)
