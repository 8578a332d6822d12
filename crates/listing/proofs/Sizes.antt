-- How much room the texts take at most.
use mathlib.Core.List.{List, [], ◌∷◌, ◌++◌}
use Prim.Native.Nat.{ℕ, suc, ◌+◌, ◌*◌, ◌^◌, ◌≤◌, ◌<◌}
use native.Mathlib.Omega.{arith}
use lib.ListN.{length, get_or, length-append}
use Rattle.listing.specs.Text.{states_word, nodes_word, refused_word, at_word, space, newline}
use Rattle.listing.specs.Text.{joined, mark_digit, mark_line, node_line, two_numbers, listing, refused_line}
use Rattle.decimal.specs.Decimal.{decimal}
use Rattle.outcome.specs.declared.Outcome.{Outcome}
use Rattle.append.specs.Piece.{Room}
use Rattle.listing.proofs.Joined.{joined_size}
use Rattle.decimal.proofs.Decimal.{decimal_size}

mark_size : (n start : ℕ) (marks : List ℕ) → length (mark_line n marks start) ≤ n
unfolding mark_line
mark_size n start marks =
    omega (arith, joined_size n 1 (λ s. mark_digit (get_or marks (start + s) 0) ∷ []) (λ s l. omega arith))

node_size : (n t : ℕ) (marks : List ℕ) → n ≤ 256 → t < 100 → length (node_line n marks t) ≤ 260
unfolding node_line
node_size n t marks h l =
    let line = mark_line n marks (t * n) in
    omega (
      arith,
      decimal_size 1 t l,
      mark_size n (t * n) marks,
      length-append (decimal t) space,
      length-append (decimal t ++ space) line,
      length-append (decimal t ++ space ++ line) newline,
    )

numbers_size :
    (first second : List ℕ) (x y a b : ℕ) → x < 10 ^ suc a → y < 10 ^ suc b →
    length (two_numbers first x second y) ≤ length first + suc a + length second + suc b
unfolding two_numbers
numbers_size first second x y a b h i =
    omega (
      arith,
      decimal_size a x h,
      decimal_size b y i,
      length-append first (decimal x),
      length-append (first ++ decimal x) second,
      length-append (first ++ decimal x ++ second) (decimal y),
    )

-- a first line of at most 20 bytes, and k lines of at most 260
pub listing_room :
    (n k : ℕ) (marks out : List ℕ) → n ≤ 256 → k ≤ 64 → 20 + 64 * 260 ≤ length out → Room 0 (listing n k marks) out
unfolding listing
listing_room n k marks out h i room =
    let counts = two_numbers states_word n nodes_word k in
    let lines = joined_size k 260 (node_line n marks) (λ t l. node_size n t marks h (omega arith)) in
    let first = numbers_size states_word nodes_word n k 2 1 (omega arith) (omega arith) in
    let parts = length-append (counts ++ newline) (joined k (node_line n marks)) in
    record { fits = omega (arith, room, first, lines, i, length-append counts newline, parts) }

-- three numbers of at most ten digits
pub record Ranged (o : Outcome) : Type 0 where
  pub number : o.number < 2 ^ 32
  pub place : o.place < 2 ^ 32
  pub entry : o.entry < 2 ^ 32

pub refused_size : (o : Outcome) → Ranged o → length (refused_line o) ≤ 44
unfolding refused_line
refused_size o r =
    let placed = two_numbers refused_word o.number at_word o.place in
    omega (
      arith,
      numbers_size refused_word at_word o.number o.place 9 9 (omega (arith, r.number)) (omega (arith, r.place)),
      decimal_size 9 o.entry (omega (arith, r.entry)),
      length-append placed space,
      length-append (placed ++ space) (decimal o.entry),
      length-append (placed ++ space ++ decimal o.entry) newline,
    )
