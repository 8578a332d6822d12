-- Invariant: the marks before the index are there.
use mathlib.Core.Path.{◌≡◌}
use mathlib.Core.List.{List, [], ◌∷◌}
use Prim.Native.Nat.{ℕ, ◌+◌, ◌-◌, ◌<◌}
use native.Mathlib.Omega.{arith}
use lib.ListN.{length, get_or, take, drop, length-take}
use Rattle.std.proofs.lemmas.List.{get_or-take, get_or-drop}
use Rattle.listing.specs.Text.{mark_digit, mark_line}
use Rattle.append.proofs.Append.{appended_text}
use Rattle.listing.proofs.Joined.{joined_none, joined_more, joined_room}
use Rattle.listing.proofs.put_marks.Goals as goal

-- byte i of the n bytes from start on
module _ (start n i : ℕ) (marks : List ℕ) (h : i < length (take (start + n - start) (drop start marks))) where
  below : i < n
  below = omega (arith, h, length-take (start + n - start) (drop start marks))

  digit :
      {b : ℕ} → b ≡ mark_digit (get_or (take (start + n - start) (drop start marks)) i 0) →
      b ∷ [] ≡ mark_digit (get_or marks (start + i) 0) ∷ []
  digit e =
      let inside : i < start + n - start = omega (arith, below) in
      rw (e, get_or-take (start + n - start) (drop start marks) i 0, get_or-drop start marks i 0)

pub loop-byte-init : goal.loop-byte-init
unfolding mark_line
loop-byte-init c = joined_none _

pub put-end-requires : goal.put-end-requires
unfolding mark_line
put-end-requires c =
    let a = c.args in
    let loop = c.loop-byte in
    rw (digit a.start a.n loop.byte-index a.marks.now c.loop-byte-test.true c.mark_digit.ensures)
    (joined_room _ loop.byte-index a.n loop.invariant (below a.start a.n _ a.marks.now c.loop-byte-test.true) c.requires.1)

pub loop-byte-preserved : goal.loop-byte-preserved
unfolding mark_line
loop-byte-preserved c =
    let a = c.args in
    joined_more _ c.loop-byte.byte-index c.loop-byte.invariant
    (appended_text (digit a.start a.n _ a.marks.now c.loop-byte-test.true c.mark_digit.ensures) c.put-end.ensures)
