-- Tables of which no row is met: row by row, and part by part.
use mathlib.Core.Path.{◌≡◌, refl}
use mathlib.Core.Logic.{◌↔◌}
use mathlib.Core.List.{List, [], ◌∷◌, ◌++◌}
use mathlib.Core.Option.{Option, none, some, some-ne-none}
use Prim.Native.Nat.{ℕ}
use Rattle.outcome.specs.Refusal.{Row, row}
use Rattle.outcome.specs.Met.{Unmet, end, passed}

-- one row more, whose condition is not met
pub unmet_more : {e n : ℕ} {p : Option ℕ} {rows : List Row} → p ≡ none → Unmet rows → Unmet (row e n p ∷ rows)
unmet_more {e} {n} {p = none} h u = passed e n u
unmet_more {p = some i} h u = absurd (some-ne-none i h)

-- the first row's condition is not met, nor are those after it
pub unmet_row : {e n : ℕ} {p : Option ℕ} {rows : List Row} → Unmet (row e n p ∷ rows) → (p ≡ none) × Unmet rows
unmet_row (passed e n u) = (refl, u)

unmet_join : {xs ys : List Row} → Unmet xs → Unmet ys → Unmet (xs ++ ys)
unmet_join end v = v
unmet_join (passed e n u) v = passed e n (unmet_join u v)

unmet_split : (xs : List Row) {ys : List Row} → Unmet (xs ++ ys) → Unmet xs × Unmet ys
unmet_split [] u = (end, u)
unmet_split (row e n p ∷ xs) u =
    let r = unmet_row u in
    let h = unmet_split xs r.1 in
    (unmet_more r.0 h.0, h.1)

-- no row of a table in two parts is met just where none of either part is: by induction on the first part
pub unmet_append_iff : (xs ys : List Row) → Unmet (xs ++ ys) ↔ (Unmet xs × Unmet ys)
unmet_append_iff xs ys = (unmet_split xs, λ h. unmet_join h.0 h.1)
