-- The line is what stands before the first newline of the rest, or all of it.
use mathlib.Core.Path.{◌≡◌, sym, ap, ◌∙◌}
use mathlib.Core.List.{List}
use Prim.Native.Nat.{ℕ}
use native.Mathlib.Omega.{arith}
use lib.ListN.{length, take, drop}
use Rattle.std.proofs.Common.{Option}
use Rattle.std.specs.List.{position, between}
use Rattle.std.specs.Option.{unwrap_or}
use Rattle.std.proofs.lemmas.Slice.{between_to_end}
use Rattle.append.proofs.Append.{appended_text, room_text}
use Rattle.lines.specs.Line.{before, behind, line}
use Rattle.lines.proofs.Passed.{newline, before_is}
use Rattle.lines.proofs.put_line.Goals as goal

-- what is copied is the line: line_start and newline together
same :
    (text : List ℕ) (i start : ℕ) {n : ℕ} {found : Option ℕ} → drop start text ≡ behind i text →
    found ≡ position newline (between start (length text) text) →
    n ≡ unwrap_or found (length (between start (length text) text)) →
    take n (between start (length text) text) ≡ line i text
unfolding line
same text i start e f h =
    before_is _ (h ∙ ap (λ o. unwrap_or o (length (between start (length text) text))) f) ∙
    ap before (between_to_end text start (length text) (omega arith) ∙ e)

pub put_word-requires : goal.put_word-requires
put_word-requires c =
    room_text
    (sym (same c.args.text.now c.args.i _ c.line_start.ensures.0 c.newline.ensures c.unwrap_or-size.ensures))
    c.requires

pub returns : goal.returns
returns c =
    appended_text (same c.args.text.now c.args.i _ c.line_start.ensures.0 c.newline.ensures c.unwrap_or-size.ensures)
    c.put_word.ensures
