-- The four parts one after another.
use mathlib.Core.Path.{◌≡◌, sym, ap, ◌∙◌}
use mathlib.Core.List.{List, ◌++◌}
use Prim.Native.Nat.{ℕ, ◌+◌, ◌≤◌}
use native.Mathlib.Omega.{arith}
use borrow.Author.Rules.{rules}
use lib.ListN.{length, drop}
use lib.Seq.{sets-eq}
use Rattle.outcome.specs.declared.Outcome.{Outcome}
use Rattle.append.specs.Piece.{Room, Appended, AtFront}
use Rattle.append.proofs.Append.{at_front}
use Rattle.append.proofs.Four.{Rooms, rooms, appended_four}
use Rattle.listing.specs.Text.{newline, refused_line}
use Rattle.listing.proofs.Sizes.{Ranged}
use Rattle.typed_listing.specs.Refused.{shown_text, caret_line, refused_text}
use Rattle.typed_listing.proofs.Sizes.{refusal_room}
use Rattle.typed_listing.proofs.refuse_text.Goals as goal

-- what was put at the front was appended at 0
appended_front :
    {r : ℕ} {piece old new : List ℕ} → Room 0 piece old → AtFront piece r old new → Appended 0 piece r old new
appended_front {piece = piece} {old} h p =
    let e : length piece ≡ 0 + length piece = omega arith in
    record {
      end = p.end ∙ e;
      bytes = p.bytes ∙ ap (λ k. piece ++ drop k old) e ∙ sym (sets-eq piece old 0 h.fits);
    }

-- the parts, and room for each beginning of them
module _
    (o : Outcome) (text : List ℕ) {out : List ℕ} (ranged : Ranged o)
    (h : 44 + length text + 1 + o.place + 2 ≤ length out) where
  room : Room 0 (refused_line o ++ shown_text text ++ newline ++ caret_line o.place) out
  unfolding refused_text
  room = refusal_room _ _ _ ranged h

  parts : Rooms 0 (refused_line o) (shown_text text) newline (caret_line o.place) out
  parts = rooms (refused_line o) (shown_text text) newline (caret_line o.place) room

  -- the first line is there
  lined : {r : ℕ} {new : List ℕ} → AtFront (refused_line o) r out new → Appended 0 (refused_line o) r out new
  lined p = appended_front parts.one p

pub put_shown-shown-requires : goal.put_shown-shown-requires
put_shown-shown-requires c =
    let ranged : Ranged c.args.outcome = search rules in
    let front = lined c.args.outcome c.args.text.now ranged c.requires c.refuse-lined.ensures in
    (parts c.args.outcome c.args.text.now ranged c.requires).two front

pub put-ended-requires : goal.put-ended-requires
put-ended-requires c =
    let ranged : Ranged c.args.outcome = search rules in
    let front = lined c.args.outcome c.args.text.now ranged c.requires c.refuse-lined.ensures in
    (parts c.args.outcome c.args.text.now ranged c.requires).three front c.put_shown-shown.ensures

pub put_caret-requires : goal.put_caret-requires
put_caret-requires c =
    let ranged : Ranged c.args.outcome = search rules in
    let front = lined c.args.outcome c.args.text.now ranged c.requires c.refuse-lined.ensures in
    (parts c.args.outcome c.args.text.now ranged c.requires).four front c.put_shown-shown.ensures c.put-ended.ensures

pub returns : goal.returns
unfolding refused_text
returns c =
    let ranged : Ranged c.args.outcome = search rules in
    let front = lined c.args.outcome c.args.text.now ranged c.requires c.refuse-lined.ensures in
    at_front (room c.args.outcome c.args.text.now ranged c.requires)
    (appended_four front c.put_shown-shown.ensures c.put-ended.ensures c.put_caret.ensures)
