-- Nothing of an acceptance, else the four parts one after another, for which there is room.
use mathlib.Core.List.{List, ◌++◌}
use Prim.Native.Nat.{ℕ, ◌^◌, ◌≤◌, ◌<◌}
use lib.ListN.{length}
use Rattle.outcome.specs.declared.Outcome.{Outcome}
use borrow.Author.Rules.{rules}
use borrow.Author.Tests.{eq-eqb, ne_eqb}
use Rattle.append.specs.Piece.{Room}
use Rattle.append.proofs.Append.{at_front, at_front_none}
use Rattle.refusal_words.specs.Bytes.{bytes}
use Rattle.telling.specs.Told.{told_text, told}
use Rattle.append.proofs.Four.{Rooms, rooms, appended_four}
use Rattle.telling.proofs.Sizes.{line_room}
use Rattle.telling.proofs.tell_into.Goals as goal

room :
    (program : List ℕ) (outcome : Outcome) {out : List ℕ} → outcome.place < 2 ^ 32 →
    (length program ≤ 9) × (192 ≤ length out) →
    Room 0 (program ++ bytes ": " ++ told_text outcome ++ bytes ")\n") out
room program outcome small h = line_room program outcome h.0 small h.1

parts :
    (program : List ℕ) (outcome : Outcome) {out : List ℕ} → outcome.place < 2 ^ 32 →
    (length program ≤ 9) × (192 ≤ length out) →
    Rooms 0 program (bytes ": ") (told_text outcome) (bytes ")\n") out
parts program outcome small h =
    rooms program (bytes ": ") (told_text outcome) (bytes ")\n") (room program outcome small h)

pub returns-then-outcome-eq0 : goal.returns-then-outcome-eq0
unfolding told
returns-then-outcome-eq0 c = rw (eq-eqb c.args.outcome.number 0 c.if-outcome-eq0.true) at_front_none

pub put_told-end-requires : goal.put_told-end-requires
put_told-end-requires c =
    (parts c.args.program.now c.args.outcome (search rules) c.requires).three c.put_word-end.ensures c.put_word-end-2.ensures

pub put_word-requires : goal.put_word-requires
put_word-requires c =
    (parts c.args.program.now c.args.outcome (search rules) c.requires).four c.put_word-end.ensures
    c.put_word-end-2.ensures c.put_told-end.ensures

pub returns : goal.returns
unfolding told
returns c =
    rw (ne_eqb c.args.outcome.number 0 c.if-outcome-eq0.false)
    (at_front (room c.args.program.now c.args.outcome (search rules) c.requires)
    (appended_four c.put_word-end.ensures c.put_word-end-2.ensures c.put_told-end.ensures c.put_word.ensures))
