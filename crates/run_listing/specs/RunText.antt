-- The text of a shown run, a line a position, as a list of bytes. The quoted lines are of the README, on desk --why.
use Rattle.std.specs.Prelude.{Bool, cond, List, [], ◌∷◌, ◌++◌, ℕ, ◌+◌, ◌*◌, ◌/◌, length, ltb}
use Rattle.base.specs.Tabulate.{tabulate}
use Rattle.words.specs.Word.{word, long}
use Rattle.listing.specs.Text.{at_word, newline}
use Rattle.decimal.specs.Decimal.{decimal}
use Rattle.shown.specs.Shown.{Position, place}

-- ": "
abbrev pub colon_word : List ℕ
colon_word = 58 ∷ 32 ∷ []

-- " minutes to "
abbrev pub minutes_word : List ℕ
minutes_word = 32 ∷ 109 ∷ 105 ∷ 110 ∷ 117 ∷ 116 ∷ 101 ∷ 115 ∷ 32 ∷ 116 ∷ 111 ∷ 32 ∷ []

-- ": until met at "
abbrev pub met_word : List ℕ
met_word = 58 ∷ 32 ∷ 117 ∷ 110 ∷ 116 ∷ 105 ∷ 108 ∷ 32 ∷ 109 ∷ 101 ∷ 116 ∷ 32 ∷ 97 ∷ 116 ∷ 32 ∷ []

-- ": above "
abbrev pub above_word : List ℕ
above_word = 58 ∷ 32 ∷ 97 ∷ 98 ∷ 111 ∷ 118 ∷ 101 ∷ 32 ∷ []

-- ": neither operand"
abbrev pub neither_word : List ℕ
neither_word =
    58 ∷ 32 ∷ 110 ∷ 101 ∷ 105 ∷ 116 ∷ 104 ∷ 101 ∷ 114 ∷ 32 ∷ 111 ∷ 112 ∷ 101 ∷ 114 ∷ 97 ∷ 110 ∷ 100 ∷ []

-- a number after a word
unfoldable pub after : List ℕ → ℕ → List ℕ
after before x = before ++ decimal x

-- "STATE at MOMENT"
unfoldable pub place_text : ℕ → ℕ → List ℕ
place_text state moment = decimal state ++ after at_word moment

-- "STATE at MOMENT: DURATION minutes to NEXT"
unfoldable pub step_line : ℕ → ℕ → ℕ → ℕ → List ℕ
step_line state moment duration next =
    place_text state moment ++ after colon_word duration ++ after minutes_word next ++ newline

-- why a run ends: ": until met at MOMENT" for an E-until; for an A-until ": above C" if the moment is above c, else
-- ": neither operand"
unfoldable pub end_text : Bool → ℕ → ℕ → List ℕ
end_text all c moment =
    cond all (cond (ltb c moment) (after above_word c) neither_word) (after met_word moment)

-- "STATE at MOMENT", and why the run ends there
unfoldable pub end_line : Bool → ℕ → ℕ → ℕ → List ℕ
end_line all c state moment = place_text state moment ++ end_text all c moment ++ newline

-- the lines of the positions from a moment on: each moment is the sum of the durations before
unfoldable pub lines_from : Bool → ℕ → ℕ → List Position → List ℕ
lines_from all c moment [] = []
lines_from all c moment (p ∷ []) = end_line all c p.state moment
lines_from all c moment (p ∷ q ∷ run) =
    step_line p.state moment p.duration q.state ++ lines_from all c (moment + p.duration) (q ∷ run)

-- the text of a run of an A-until with all, else of an E-until, with the bound c
abbrev pub run_text : Bool → ℕ → List Position → List ℕ
run_text all c run = lines_from all c 0 run

-- "per position the state (2 bytes) and duration (4)" (02, paper 1): position i of the bytes
abbrev pub position_at : List ℕ → ℕ → Position
position_at bytes i = place (word bytes (6 * i)) (long bytes (6 * i + 2))

-- all positions of the bytes
abbrev pub positions_of : List ℕ → List Position
positions_of bytes = tabulate (length bytes / 6) (position_at bytes)
