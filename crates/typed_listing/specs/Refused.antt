-- What is printed of a text that is refused.
use Rattle.std.specs.Prelude.{cond, ◌||◌, List, [], ◌∷◌, ◌++◌, ℕ, length, get_or, eqb, ltb}
use Rattle.outcome.specs.declared.Outcome.{Outcome}
use Rattle.listing.specs.Text.{space, newline, joined, refused_line}

-- a control byte would end the line or move what follows it, so that "?" stands for it
abbrev pub shown_byte : ℕ → ℕ
shown_byte byte = cond (ltb byte 32 || eqb byte 127) 63 byte

abbrev pub shown_at : List ℕ → ℕ → List ℕ
shown_at t i = shown_byte (get_or t i 0) ∷ []

-- the text on one line: a byte for each of its bytes, so that places stay
unfoldable pub shown_text : List ℕ → List ℕ
shown_text t = joined (length t) (shown_at t)

unfoldable pub spaces : ℕ → List ℕ
spaces count = joined count (λ i. space)

-- "^" under the place: what stands before that is of the grammar, where every byte takes one column
unfoldable pub caret_line : ℕ → List ℕ
caret_line place = spaces place ++ 94 ∷ newline

-- the refusal as every program prints it, the text, and where in the text
unfoldable pub refused_text : Outcome → List ℕ → List ℕ
refused_text o t = refused_line o ++ shown_text t ++ newline ++ caret_line o.place
