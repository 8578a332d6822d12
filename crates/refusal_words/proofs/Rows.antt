-- The row of a number past the list, and of any.
use mathlib.Core.Path.{◌≡◌, refl, ap}
use mathlib.Core.Bool.{Bool, true, ◌&&◌}
use mathlib.Core.List.{List, [], ◌∷◌}
use Prim.Native.Nat.{ℕ, suc, ◌≤◌}
use native.Mathlib.Omega.{arith}
use lib.Dec.{eqb, ltb}
use lib.ListN.{length}
use borrow.Author.Tests.{ne_eqb, ltb-true}
use Rattle.base.proofs.Truth.{and_iff, cond_elim}
use Rattle.refusal_words.specs.Sentences.{Sentence, sentences, row_in, row_of}

-- every number of the list is below n
abbrev all_below : List Sentence → ℕ → Bool
all_below [] n = true
all_below (s ∷ rest) n = ltb s.number n && all_below rest n

-- a number past them all has no row
past : (rows : List Sentence) (m n : ℕ) → all_below rows m ≡ true → m ≤ n → length rows ≡ row_in rows n
past [] m n h l = refl
past (s ∷ rest) m n h l =
    let w = (and_iff (ltb s.number m) (all_below rest m)).0 h in
    let below = ltb-true s.number m w.0 in
    rw (ne_eqb n s.number (λ e. omega arith)) (ap suc (past rest m n w.1 l))

pub late_row : {n : ℕ} → 67 ≤ n → 30 ≡ row_of n
unfolding row_of
late_row {n} l = past sentences 67 n refl l

-- no row is past the end
within : (rows : List Sentence) (n : ℕ) → row_in rows n ≤ length rows
within [] n = omega arith
within (s ∷ rest) n =
    let ih = within rest n in
    cond_elim (λ (k : ℕ). k ≤ suc (length rest)) (eqb n s.number) (λ e. omega arith) (λ e. omega arith)

pub row_small : (n : ℕ) → row_of n ≤ 30
unfolding row_of
row_small n = within sentences n
