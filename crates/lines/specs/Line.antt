-- A line of a text, as a list of bytes. A newline, the byte 10, ends each line.
use Rattle.std.specs.Prelude.{cond, List, [], ◌∷◌, ◌++◌, ℕ, zero, suc, eqb}

-- what stands behind the first i newlines; nothing if there are fewer
unfoldable pub behind : ℕ → List ℕ → List ℕ
behind zero s = s
behind (suc i) [] = []
behind (suc i) (b ∷ s) = cond (eqb b 10) (behind i s) (behind (suc i) s)

-- what stands before the first newline; all if there is none
unfoldable pub before : List ℕ → List ℕ
before [] = []
before (b ∷ s) = cond (eqb b 10) [] (b ∷ before s)

-- line i, counted from 0, without its newline
unfoldable pub line : ℕ → List ℕ → List ℕ
line i s = before (behind i s)

-- texts one after another, each on a line of its own
unfoldable pub on_lines : List (List ℕ) → List ℕ
on_lines [] = []
on_lines (s ∷ rest) = s ++ 10 ∷ on_lines rest
