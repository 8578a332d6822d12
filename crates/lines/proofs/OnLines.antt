-- Line i of texts that stand on lines of their own is text i, if none of them has a newline.
use mathlib.Core.Path.{◌≡◌, refl, ap, ◌∙◌}
use mathlib.Core.Bool.{Bool, true, false, cond, false≢true}
use mathlib.Core.List.{List, [], ◌∷◌, ◌++◌}
use Prim.Native.Nat.{ℕ, zero, suc}
use lib.Dec.{eqb}
use lib.ListN.{get_or}
use Rattle.lines.specs.Line.{behind, before, line, on_lines}
use Rattle.lines.proofs.Passed.{behind_nothing}

-- no byte of a text is a newline
abbrev pub plain : List ℕ → Bool
plain [] = true
plain (b ∷ s) = cond (eqb b 10) false (plain s)

-- nor one of any of these texts
abbrev pub all_plain : List (List ℕ) → Bool
all_plain [] = true
all_plain (s ∷ rest) = cond (plain s) (all_plain rest) false

-- The first newline is the one that ends a plain text: before it stands the text, and behind it all that follows. By
-- induction on the text, of which no byte stops the search.
ended :
    (s t : List ℕ) → plain s ≡ true →
    (before (s ++ 10 ∷ t) ≡ s) × ((i : ℕ) → behind (suc i) (s ++ 10 ∷ t) ≡ behind i t)
unfolding before behind
ended [] t e = (refl, λ i. refl)
ended (b ∷ s) t e = turn (ended s t) (eqb b 10) e
  where
    turn :
        (plain s ≡ true → (before (s ++ 10 ∷ t) ≡ s) × ((i : ℕ) → behind (suc i) (s ++ 10 ∷ t) ≡ behind i t)) →
        (c : Bool) → cond c false (plain s) ≡ true →
        (cond c [] (b ∷ before (s ++ 10 ∷ t)) ≡ b ∷ s) ×
        ((i : ℕ) → cond c (behind i (s ++ 10 ∷ t)) (behind (suc i) (s ++ 10 ∷ t)) ≡ behind i t)
    turn ih true e = absurd (false≢true e)
    turn ih false e = (ap (λ (r : List ℕ). b ∷ r) (ih e).0, (ih e).1)

-- By induction on the texts: line 0 is the first, and line i + 1 is line i of what follows it.
pub line_of : (texts : List (List ℕ)) → all_plain texts ≡ true → (i : ℕ) → line i (on_lines texts) ≡ get_or texts i []
unfolding line on_lines before behind
line_of [] e i = ap before (behind_nothing i)
line_of (s ∷ rest) e i = turn (line_of rest) (plain s) refl e i
  where
    turn :
        (all_plain rest ≡ true → (i : ℕ) → line i (on_lines rest) ≡ get_or rest i []) →
        (c : Bool) → plain s ≡ c → cond c (all_plain rest) false ≡ true →
        (i : ℕ) → line i (s ++ 10 ∷ on_lines rest) ≡ get_or (s ∷ rest) i []
    turn ih true d e zero = (ended s (on_lines rest) d).0
    turn ih true d e (suc i) = ap before ((ended s (on_lines rest) d).1 i) ∙ ih e i
    turn ih false d e i = absurd (false≢true e)
