-- The lines of the two texts in the code: a number's, and an entry's.
use mathlib.Core.Path.{◌≡◌, refl, sym, ◌∙◌}
use mathlib.Core.List.{List, [], ◌∷◌, map}
use Prim.Native.Nat.{ℕ, zero, suc, ◌+◌, ◌*◌, ◌<◌}
use native.Mathlib.Omega.{arith}
use lib.ListN.{get_or, get_or-append, get_or-map}
use lib.Seq.{get_or-append-add}
use Rattle.lines.specs.Line.{line, on_lines}
use Rattle.lines.proofs.OnLines.{line_of}
use Rattle.refusal_words.specs.Bytes.{bytes}
use Rattle.refusal_words.specs.Sentences.{Sentence, sentences, row_of, pair, texts, listed, silent, text_of}
use Rattle.refusal_words.specs.Sentences.{papers, paper_of}

silence : (which : ℕ) → which < 2 → get_or (pair silent) which [] ≡ []
silence zero l = refl
silence (suc zero) l = refl
silence (suc (suc which)) l = absurd (omega arith)

-- two texts a row: by induction on the rows
text_at :
    (rows : List Sentence) (i which : ℕ) → which < 2 →
    get_or (texts rows) (2 * i + which) [] ≡ get_or (pair (get_or rows i silent)) which []
text_at [] i which l = sym (silence which l)
text_at (s ∷ rest) zero which l =
    let e : 2 * 0 + which ≡ which = omega arith in
    rw e (get_or-append (pair s) (texts rest) [] which l)
text_at (s ∷ rest) (suc i) which l =
    let e : 2 * suc i + which ≡ 2 + (2 * i + which) = omega arith in
    rw e (get_or-append-add (pair s) (texts rest) (2 * i + which) [] ∙ text_at rest i which l)

pub text_line : (n which : ℕ) → which < 2 → line (2 * row_of n + which) listed ≡ text_of n which
unfolding listed text_of
text_line n which l = line_of (texts sentences) refl (2 * row_of n + which) ∙ text_at sentences (row_of n) which l

pub paper_line : (e : ℕ) → line e (on_lines (map bytes papers)) ≡ paper_of e
unfolding paper_of
paper_line e = line_of (map bytes papers) refl e ∙ get_or-map bytes papers e ""
