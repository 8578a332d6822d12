-- The entry of a number past the table.
use mathlib.Core.Path.{◌≡◌, refl, sym, ◌∙◌}
use mathlib.Core.Bool.{Bool, true, false, cond, ◌&&◌}
use mathlib.Core.List.{List, [], ◌∷◌}
use Prim.Native.Nat.{ℕ, ◌≤◌}
use native.Mathlib.Omega.{arith}
use lib.Dec.{leb, ltb}
use borrow.Author.Tests.{lt-leb, ltb-true}
use Rattle.base.proofs.Truth.{and_iff}
use Rattle.outcome.specs.Entry.{Carry, carry, entries, carried, entry_of}

-- every number of the table is below n
abbrev all_below : List Carry → ℕ → Bool
all_below [] n = true
all_below (carry first last entry ∷ rest) n = ltb last n && all_below rest n

-- a row that ends below n is passed over
missed : (b : Bool) {c : Bool} (entry later : ℕ) → c ≡ false → cond (b && c) entry later ≡ later
missed true entry later e = rw e
missed false entry later e = refl

-- past the last number none is found
past : (table : List Carry) (m n : ℕ) → all_below table m ≡ true → m ≤ n → 0 ≡ carried table n
past [] m n h l = refl
past (carry first last entry ∷ rest) m n h l =
    let w = (and_iff (ltb last m) (all_below rest m)).0 h in
    let over : leb n last ≡ false = lt-leb n last (omega (arith, ltb-true last m w.0)) in
    past rest m n w.1 l ∙ sym (missed (leb first n) entry (carried rest n) over)

pub late_carries : {n : ℕ} → 67 ≤ n → 0 ≡ entry_of n
unfolding entry_of
late_carries {n} l = past entries 67 n refl l
