-- How long the line is at most.
use mathlib.Core.List.{List, ◌++◌}
use Prim.Native.Nat.{ℕ, ◌^◌, ◌≤◌, ◌<◌}
use native.Mathlib.Omega.{arith}
use lib.Dec.{eqb}
use lib.ListN.{length}
use Rattle.append.specs.Piece.{Room}
use Rattle.append.proofs.Four.{length_four}
use Rattle.base.proofs.Truth.{cond_elim}
use Rattle.decimal.specs.Decimal.{decimal}
use Rattle.decimal.proofs.Decimal.{decimal_size}
use Rattle.outcome.specs.declared.Outcome.{Outcome}
use Rattle.refusal_words.specs.Bytes.{bytes}
use Rattle.refusal_words.specs.Sentences.{counts_of, sentence_of, paper_of}
use Rattle.refusal_words.proofs.Sizes.{counts_short, sentence_short, paper_short}
use Rattle.telling.specs.Told.{counted_text, told_text}

-- a place has at most ten digits
counted_size : (n place : ℕ) → place < 2 ^ 32 → length (counted_text n place) ≤ 28
unfolding counted_text
counted_size n place h =
    cond_elim (λ (text : List ℕ). length text ≤ 28) (eqb (length (counts_of n)) 0) (λ e. omega arith)
    (λ e. omega (
      arith,
      length_four (bytes ", ") (counts_of n) (bytes " ") (decimal place),
      counts_short n,
      decimal_size 9 place (omega arith),
    ))

told_size : (o : Outcome) → o.place < 2 ^ 32 → length (told_text o) ≤ 172
unfolding told_text
told_size o h =
    omega (
      arith,
      length_four (sentence_of o.number) (bytes " (") (paper_of o.entry) (counted_text o.number o.place),
      sentence_short o.number,
      paper_short o.entry,
      counted_size o.number o.place h,
    )

pub line_room :
    (program : List ℕ) (o : Outcome) {out : List ℕ} → length program ≤ 9 → o.place < 2 ^ 32 → 192 ≤ length out →
    Room 0 (program ++ bytes ": " ++ told_text o ++ bytes ")\n") out
line_room program o h i room =
    record { fits = omega (arith, length_four program (bytes ": ") (told_text o) (bytes ")\n"), told_size o i) }
