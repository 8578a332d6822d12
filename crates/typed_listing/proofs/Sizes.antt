-- How much room the text of a refusal takes at most.
use mathlib.Core.List.{List, ◌∷◌, ◌++◌}
use Prim.Native.Nat.{ℕ, ◌+◌, ◌≤◌}
use native.Mathlib.Omega.{arith}
use lib.ListN.{length, length-append}
use Rattle.outcome.specs.declared.Outcome.{Outcome}
use Rattle.append.specs.Piece.{Room}
use Rattle.listing.specs.Text.{newline, space, refused_line}
use Rattle.listing.proofs.Joined.{joined_size}
use Rattle.listing.proofs.Sizes.{Ranged, refused_size}
use Rattle.typed_listing.specs.Refused.{shown_at, shown_text, spaces, caret_line, refused_text}

shown_size : (t : List ℕ) → length (shown_text t) ≤ length t
unfolding shown_text
shown_size t = omega (arith, joined_size (length t) 1 (shown_at t) (λ i l. omega arith))

caret_size : (place : ℕ) → length (caret_line place) ≤ place + 2
unfolding caret_line spaces
caret_size place =
    omega (arith, joined_size place 1 (λ i. space) (λ i l. omega arith), length-append (spaces place) (94 ∷ newline))

pub refusal_room :
    (o : Outcome) (t out : List ℕ) → Ranged o → 44 + length t + 1 + o.place + 2 ≤ length out →
    Room 0 (refused_text o t) out
unfolding refused_text
refusal_room o t out ranged room =
    let line = refused_line o in
    record {
      fits =
          omega (
            arith,
            room,
            refused_size o ranged,
            shown_size t,
            caret_size o.place,
            length-append line (shown_text t),
            length-append (line ++ shown_text t) newline,
            length-append (line ++ shown_text t ++ newline) (caret_line o.place),
          );
    }
