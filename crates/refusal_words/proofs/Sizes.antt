-- How long the texts are at most: of each list a test that is computed.
use mathlib.Core.Path.{◌≡◌, refl}
use mathlib.Core.Bool.{Bool, true, ◌&&◌}
use mathlib.Core.List.{List, [], ◌∷◌}
use Prim.Native.Nat.{ℕ, zero, suc, ◌<◌}
use Prim.Native.String.{String}
use native.Mathlib.Omega.{arith}
use lib.Dec.{ltb}
use lib.ListN.{length, get_or}
use borrow.Author.Tests.{ltb-true}
use Rattle.base.proofs.Truth.{and_iff}
use Rattle.refusal_words.specs.Bytes.{bytes}
use Rattle.refusal_words.specs.Sentences.{sentences, row_of, silent, text_of, counts_of, sentence_of, papers, paper_of}

-- texts of a list, one of each element: if all are shorter than k, so is the one at any place
module _ {A : Type 0} (text : A → String) (k : ℕ) where
  abbrev all_short : List A → Bool
  all_short [] = true
  all_short (a ∷ rest) = ltb (length (bytes (text a))) k && all_short rest

  shorter :
      (d : A) → length (bytes (text d)) < k →
      (l : List A) → all_short l ≡ true → (i : ℕ) → length (bytes (text (get_or l i d))) < k
  shorter d e [] h i = e
  shorter d e (a ∷ rest) h zero = ltb-true _ k ((and_iff (ltb (length (bytes (text a))) k) (all_short rest)).0 h).0
  shorter d e (a ∷ rest) h (suc i) =
      shorter d e rest ((and_iff (ltb (length (bytes (text a))) k) (all_short rest)).0 h).1 i

pub counts_short : (n : ℕ) → length (counts_of n) < 16
unfolding text_of
counts_short n = shorter (λ s. s.counts) 16 silent (omega arith) sentences refl (row_of n)

pub sentence_short : (n : ℕ) → length (sentence_of n) < 128
unfolding text_of
sentence_short n = shorter (λ s. s.condition) 128 silent (omega arith) sentences refl (row_of n)

pub paper_short : (e : ℕ) → length (paper_of e) < 16
unfolding paper_of
paper_short e = shorter (λ s. s) 16 "" (omega arith) papers refl e
