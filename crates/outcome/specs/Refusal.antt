-- Tables of refusals. The quoted sentences are of 01, "Refused with number and place", and of 02, paper 6.
use Rattle.std.specs.Prelude.{Bool, true, false, ◌||◌, List, [], ◌∷◌, ℕ, zero, suc, take, drop, ltb}
use Rattle.std.proofs.Math.Option.{Option, none, some}
use Rattle.outcome.specs.declared.Outcome.{Outcome}
use Rattle.outcome.specs.Entry.{none_wrong, entry_of}

-- "Success is number 0, place 0.", "0 none"
abbrev pub success : Outcome
success = record { number = 0; place = 0; entry = none_wrong }

-- "Refused with number and place", and "a third entry"
abbrev pub outcome : ℕ → ℕ → ℕ → Outcome
outcome n p e = record { number = n; place = p; entry = e }

-- the entry is the number's own
abbrev pub refusal : ℕ → ℕ → Outcome
refusal n p = outcome n p (entry_of n)

-- a row of the table: the entry that it carries, its number, and the place if its condition is met
pub data Row : Type 0 where
  row : ℕ → ℕ → Option ℕ → Row

-- a row that carries its number's own entry
abbrev pub refuse : ℕ → Option ℕ → Row
refuse n p = row (entry_of n) n p

-- place "0 where none is named": a condition on the whole
abbrev pub whole : Bool → Option ℕ
whole true = some 0
whole false = none

-- x is "outside a to b"
abbrev pub outside : ℕ → ℕ → ℕ → Bool
outside a b x = ltb x a || ltb b x

-- an offender was found
abbrev pub found : Option ℕ → Bool
found (some i) = true
found none = false

-- what was found, or else i if it offends
abbrev pub or_else : Option ℕ → Bool → ℕ → Option ℕ
or_else (some j) b i = some j
or_else none true i = some i
or_else none false i = none

-- "The place is the lowest offender, counted from 0": the least i below k of which p says yes
unfoldable pub lowest : (ℕ → Bool) → ℕ → Option ℕ
lowest p zero = none
lowest p (suc k) = or_else (lowest p k) (p k) k

-- this row's refusal, or else what the later rows give
abbrev pub or_later : ℕ → ℕ → Option ℕ → Outcome → Outcome
or_later e n (some p) later = outcome n p e
or_later e n none later = later

-- "each number is returned if and only if its condition is met and none tested before it is": the first row that is met
unfoldable pub first : List Row → Outcome
first [] = success
first (row e n p ∷ rows) = or_later e n p (first rows)

-- k rows of a table from the i-th on, counted from 0: what one function tests
abbrev pub rows : ℕ → ℕ → List Row → List Row
rows i k table = take k (drop i table)

-- the rows, each with another entry: "Overview refusals then use the chart numbers"
abbrev pub carrying : ℕ → List Row → List Row
carrying e [] = []
carrying e (row own n p ∷ rows) = row e n p ∷ carrying e rows
