-- Each number's own sentence, in the papers' words, and what its place counts.
use Rattle.std.specs.Prelude.{cond, List, [], ◌∷◌, ◌++◌, ℕ, suc, eqb, get_or}
use Prim.Native.String.{String}
use Rattle.lines.specs.Line.{on_lines}
use Rattle.refusal_words.specs.Bytes.{bytes}

-- a number, what its place counts ("0 where none is named": nothing), and its condition
pub record Sentence : Type 0 where
  pub number : ℕ
  pub counts : String
  pub condition : String

abbrev pub says : ℕ → String → String → Sentence
says number counts condition = record { number = number; counts = counts; condition = condition }

-- 01's table, row 19 as of 02, paper 4, and 02's papers 1, 2 and 5; 14, 18, 60, 61 and 65 are put together from the
-- papers' words, of paper 7 too, so that each can be understood alone
abbrev pub sentences : List Sentence
sentences =
    says 1 "" "chart under 9 bytes" ∷
    says 2 "" "chart version not 1" ∷
    says 3 "" "chart's stated length is not the real one" ∷
    says 4 "" "n outside 1 to 256" ∷
    says 5 "" "m outside 1 to 2,048" ∷
    says 6 "" "length not 9 + 2n + 8m" ∷
    says 7 "arrow" "arrow names a state n or above" ∷
    says 8 "arrow" "fewest above most, or fewest 65,535" ∷
    says 9 "state" "state without an outgoing arrow" ∷
    says 10 "" "rule under 7 bytes" ∷
    says 11 "" "rule version not 1" ∷
    says 12 "" "rule's stated length is not the real one" ∷
    says 13 "" "k outside 1 to 64, or length not 7 + 8k" ∷
    says 14 "node" "unknown operation, wrong kind, kind 3 with c above 255, label above 15, unused field not 0" ∷
    says 15 "node" "operand not lower than its node" ∷
    says 16 "node" "node but the last not used exactly once" ∷
    says 17 "" "marks table under k × n bytes" ∷
    says 18 "" "scratch under 4n numbers, in count or with kind 3 under 256 × n" ∷
    says 19 "state" "a state from which no loop holding an arrow with most above 0 can be reached" ∷
    says 20 ""
    "map under 7 bytes, version not 1, stated length not the real one or not 7 + 2 × count, or count not the detail's n" ∷
    says 21 "detail state" "map entry not an overview state" ∷
    says 22 "detail state" "labels differ" ∷
    says 23 "detail arrow" "arrow not covered" ∷
    says 60 ""
    "node or state out of range or not such a mark: a marked E-until node, or an unmarked A-until node bounded by \"at most\"" ∷
    says 61 "" "scratch under 257 × n numbers" ∷
    says 62 "" "no true run of at most 256 steps fits the output" ∷
    says 63 "node" "a bound above 255" ∷
    says 64 "byte" "text not of the grammar" ∷
    says 65 "" "text above 4,096 bytes, or of above 64 nodes" ∷
    says 66 "" "output short" ∷
    []

-- the row of a number in such a list, counted from 0; past the last one for a number that is not in it
abbrev pub row_in : List Sentence → ℕ → ℕ
row_in [] n = 0
row_in (s ∷ rest) n = cond (eqb n s.number) 0 (suc (row_in rest n))

unfoldable pub row_of : ℕ → ℕ
row_of n = row_in sentences n

-- the two texts of a row: what its place counts, and its condition
abbrev pub pair : Sentence → List (List ℕ)
pair s = bytes s.counts ∷ bytes s.condition ∷ []

abbrev pub texts : List Sentence → List (List ℕ)
texts [] = []
texts (s ∷ rest) = pair s ++ texts rest

-- the list as a text, two lines a row
unfoldable pub listed : List ℕ
listed = on_lines (texts sentences)

-- the row of a number that no call answers says nothing
abbrev pub silent : Sentence
silent = says 0 "" ""

-- a number's text, one of the two
unfoldable pub text_of : ℕ → ℕ → List ℕ
text_of n which = get_or (pair (get_or sentences (row_of n) silent)) which []

abbrev pub counts_of : ℕ → List ℕ
counts_of n = text_of n 0

abbrev pub sentence_of : ℕ → List ℕ
sentence_of n = text_of n 1

-- "0 none, 1 chart or detail, 2 overview, 3 rule, 4 map, 5 a buffer" (02, paper 6)
abbrev pub papers : List String
papers = "none" ∷ "chart or detail" ∷ "overview" ∷ "rule" ∷ "map" ∷ "a buffer" ∷ []

-- the paper of an entry; nothing of an entry that is not in the list
unfoldable pub paper_of : ℕ → List ℕ
paper_of e = bytes (get_or papers e "")
