-- Invariant: the bytes of the text before the index are shown.
use mathlib.Core.Path.{◌≡◌, ap}
use mathlib.Core.List.{[], ◌∷◌}
use Prim.Native.Nat.{ℕ}
use native.Mathlib.Omega.{arith}
use lib.ListN.{length}
use Rattle.append.proofs.Append.{appended_text}
use Rattle.listing.specs.Text.{joined}
use Rattle.listing.proofs.Joined.{joined_none, joined_more, joined_room}
use Rattle.typed_listing.specs.Refused.{shown_at, shown_text}
use Rattle.typed_listing.proofs.put_shown.Goals as goal

pub loop-byte-init : goal.loop-byte-init
loop-byte-init c = joined_none _

pub put-end-requires : goal.put-end-requires
unfolding shown_text
put-end-requires c =
    let loop = c.loop-byte in
    rw c.shown_byte.ensures
    (joined_room _ loop.byte-index (length c.args.text.now) loop.invariant c.loop-byte-test.true c.requires)

pub loop-byte-preserved : goal.loop-byte-preserved
loop-byte-preserved c =
    joined_more _ c.loop-byte.byte-index c.loop-byte.invariant
    (appended_text (ap (λ (b : ℕ). b ∷ []) c.shown_byte.ensures) c.put-end.ensures)

pub returns : goal.returns
unfolding shown_text
returns c =
    let text = c.args.text.now in
    let e : c.loop-byte.byte-index ≡ length text = omega arith in
    appended_text (ap (λ (k : ℕ). joined k (shown_at text)) e) c.loop-byte.invariant
