-- Tables whose rows carry their numbers' own entries: so does what they answer.
use mathlib.Core.Path.{◌≡◌, refl}
use mathlib.Core.Bool.{Bool, true, ◌&&◌}
use mathlib.Core.List.{List, [], ◌∷◌}
use mathlib.Core.Option.{none, some}
use lib.Dec.{eqb}
use borrow.Author.Tests.{eqb-true}
use Rattle.base.proofs.Truth.{and_iff}
use Rattle.outcome.specs.Entry.{entry_of}
use Rattle.outcome.specs.Refusal.{Row, row, first}

-- every row carries its number's own entry
abbrev pub own : List Row → Bool
own [] = true
own (row e n p ∷ rows) = eqb e (entry_of n) && own rows

-- the first row that is met answers its own entry, and success carries 0
pub own_entry : (rows : List Row) → own rows ≡ true → (first rows).entry ≡ entry_of (first rows).number
unfolding first entry_of
own_entry [] h = refl
own_entry (row e n none ∷ rows) h = own_entry rows ((and_iff (eqb e (entry_of n)) (own rows)).0 h).1
own_entry (row e n (some p) ∷ rows) h = eqb-true e (entry_of n) ((and_iff (eqb e (entry_of n)) (own rows)).0 h).0
