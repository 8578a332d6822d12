-- The rows of map check that speak of the map's bytes, in the words of 01's table: of a map p for n detail states and k
-- overview states.
use Rattle.std.specs.Prelude.{Bool, not, ◌||◌, List, ℕ, ◌+◌, ◌*◌, length, eqb, ltb, leb}
use Rattle.outcome.specs.Refusal.{Row, refuse, whole, lowest}
use Rattle.head.specs.Head.{version, stated_length}
use Rattle.map.specs.Bytes.{entry_count, entry}

-- "map under 7 bytes, version not 1, stated length not the real one or not 7 + 2 × count, or count not the detail's n"
unfoldable pub no_map : List ℕ → ℕ → Bool
no_map p n =
    ltb (length p) 7 ||
    not (eqb (version p) 1) ||
    not (eqb (stated_length p) (length p)) ||
    not (eqb (length p) (7 + 2 * entry_count p)) ||
    not (eqb (entry_count p) n)

-- map under 7 bytes, ..
abbrev pub form_row : List ℕ → ℕ → Row
form_row p n = refuse 20 (whole (no_map p n))

-- "map entry not an overview state"
abbrev pub entry_row : List ℕ → ℕ → ℕ → Row
entry_row p n k = refuse 21 (lowest (λ v. leb k (entry p v)) n)
