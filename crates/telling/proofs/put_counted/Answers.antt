-- Nothing where the place counts nothing, else the four parts one after another.
use mathlib.Core.Path.{◌≡◌, sym, ◌∙◌}
use mathlib.Core.List.{List, ◌++◌}
use Prim.Native.Nat.{ℕ}
use native.Mathlib.Omega.{arith}
use borrow.Author.Tests.{eq-eqb, ne_eqb}
use lib.ListN.{length}
use Rattle.append.specs.Piece.{Room}
use Rattle.append.proofs.Append.{appended_none, appended_text, room_text}
use Rattle.decimal.specs.Decimal.{decimal}
use Rattle.refusal_words.specs.Bytes.{bytes}
use Rattle.refusal_words.specs.Sentences.{counts_of}
use Rattle.telling.specs.Told.{counted_text}
use Rattle.append.proofs.Four.{Rooms, rooms, appended_four}
use Rattle.telling.proofs.put_counted.Goals as goal

-- the place counts something
whole :
    (number place : ℕ) → (length (counts_of number) ≡ 0 → ⊥) →
    counted_text number place ≡ bytes ", " ++ counts_of number ++ bytes " " ++ decimal place
unfolding counted_text
whole number place some = rw (ne_eqb (length (counts_of number)) 0 some)

-- there is room for each of the four parts, by how many bytes tell what the place counts
parts :
    (number place : ℕ) {size at : ℕ} {out : List ℕ} → size ≡ length (counts_of number) → (size ≡ 0 → ⊥) →
    Room at (counted_text number place) out →
    Rooms at (bytes ", ") (counts_of number) (bytes " ") (decimal place) out
parts number place e some h =
    rooms (bytes ", ") (counts_of number) (bytes " ") (decimal place)
    (room_text (whole number place (λ z. some (e ∙ z))) h)

pub returns-then-counts_size-eq0 : goal.returns-then-counts_size-eq0
unfolding counted_text
returns-then-counts_size-eq0 c =
    rw (eq-eqb (length (counts_of c.args.number)) 0 (sym c.counts_size.ensures ∙ c.if-counts_size-eq0.true)) appended_none

pub put_word-end-requires : goal.put_word-end-requires
put_word-end-requires c = (parts _ _ c.counts_size.ensures c.if-counts_size-eq0.false c.requires).one

pub put_text-end-requires : goal.put_text-end-requires
put_text-end-requires c =
    (omega arith, (parts _ _ c.counts_size.ensures c.if-counts_size-eq0.false c.requires).two c.put_word-end.ensures)

pub put-end-requires : goal.put-end-requires
put-end-requires c =
    (parts _ _ c.counts_size.ensures c.if-counts_size-eq0.false c.requires).three c.put_word-end.ensures c.put_text-end.ensures

pub put_number-requires : goal.put_number-requires
put_number-requires c =
    (parts _ _ c.counts_size.ensures c.if-counts_size-eq0.false c.requires).four c.put_word-end.ensures c.put_text-end.ensures c.put-end.ensures

pub returns : goal.returns
returns c =
    appended_text (sym (whole c.args.number c.args.place (λ z. c.if-counts_size-eq0.false (c.counts_size.ensures ∙ z))))
    (appended_four c.put_word-end.ensures c.put_text-end.ensures c.put-end.ensures c.put_number.ensures)
