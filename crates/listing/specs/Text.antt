-- The text that the desk program prints, as a list of bytes. The quoted sentences are of 01, on the desk program.
use Rattle.std.specs.Prelude.{cond, List, [], ◌∷◌, ◌++◌, ℕ, zero, suc, ◌+◌, ◌*◌, get_or, eqb}
use Rattle.decimal.specs.Decimal.{decimal}
use Rattle.outcome.specs.declared.Outcome.{Outcome}

-- "states "
abbrev pub states_word : List ℕ
states_word = 115 ∷ 116 ∷ 97 ∷ 116 ∷ 101 ∷ 115 ∷ 32 ∷ []

-- " nodes "
abbrev pub nodes_word : List ℕ
nodes_word = 32 ∷ 110 ∷ 111 ∷ 100 ∷ 101 ∷ 115 ∷ 32 ∷ []

-- "refused "
abbrev pub refused_word : List ℕ
refused_word = 114 ∷ 101 ∷ 102 ∷ 117 ∷ 115 ∷ 101 ∷ 100 ∷ 32 ∷ []

-- " at "
abbrev pub at_word : List ℕ
at_word = 32 ∷ 97 ∷ 116 ∷ 32 ∷ []

-- "a space"
abbrev pub space : List ℕ
space = 32 ∷ []

-- the end of a line
abbrev pub newline : List ℕ
newline = 10 ∷ []

-- the texts f 0, f 1, .. up to f (k - 1), one after another
unfoldable pub joined : ℕ → (ℕ → List ℕ) → List ℕ
joined zero f = []
joined (suc k) f = joined k f ++ f k

-- a mark: 1 for a byte that is 1, else 0
abbrev pub mark_digit : ℕ → ℕ
mark_digit byte = cond (eqb byte 1) 49 48

-- n marks, those of the bytes from `start` on
unfoldable pub mark_line : ℕ → List ℕ → ℕ → List ℕ
mark_line n marks start = joined n (λ s. mark_digit (get_or marks (start + s) 0) ∷ [])

-- "a line per node: its number, a space, n marks"
unfoldable pub node_line : ℕ → List ℕ → ℕ → List ℕ
node_line n marks t = decimal t ++ space ++ mark_line n marks (t * n) ++ newline

-- two numbers, each after its word
unfoldable pub two_numbers : List ℕ → ℕ → List ℕ → ℕ → List ℕ
two_numbers first x second y = first ++ decimal x ++ second ++ decimal y

-- "It prints "states n nodes k", then a line per node"
unfoldable pub listing : ℕ → ℕ → List ℕ → List ℕ
listing n k marks = two_numbers states_word n nodes_word k ++ newline ++ joined k (node_line n marks)

-- "A refusal is the one line "refused 9 at 2": number, then place.", and it "ends with a space and that entry" (02,
-- paper 6)
unfoldable pub refused_line : Outcome → List ℕ
refused_line o = two_numbers refused_word o.number at_word o.place ++ space ++ decimal o.entry ++ newline
