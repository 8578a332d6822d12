-- A listing depends on the first k × n bytes alone.
use mathlib.Core.Path.{◌≡◌, ap}
use mathlib.Core.List.{List, [], ◌∷◌, ◌++◌}
use Prim.Native.Nat.{ℕ, ◌+◌, ◌*◌, ◌<◌}
use native.Mathlib.Omega.{arith}
use lib.ListN.{get_or}
use Rattle.listing.specs.Text.{states_word, nodes_word, space, newline}
use Rattle.decimal.specs.Decimal.{decimal}
use Rattle.listing.specs.Text.{mark_digit, mark_line, node_line, two_numbers, listing}
use Rattle.listing.proofs.Joined.{joined_same}
use Rattle.listing.proofs.Rows.{row_inside}

module _ (n k : ℕ) (a b : List ℕ) (same : (i : ℕ) → i < k * n → get_or a i 0 ≡ get_or b i 0) where
  node_same : (t : ℕ) → t < k → node_line n a t ≡ node_line n b t
  unfolding node_line mark_line
  node_same t l =
      let inside = row_inside t k n {size = k * n} l (omega arith) in
      ap (λ (s : List ℕ). decimal t ++ space ++ s ++ newline)
      (joined_same n _ _ (λ s h. ap (λ (x : ℕ). mark_digit x ∷ []) (same (t * n + s) (omega arith))))

  pub listing_same : listing n k a ≡ listing n k b
  unfolding listing
  listing_same =
      ap (λ (s : List ℕ). two_numbers states_word n nodes_word k ++ newline ++ s)
      (joined_same k (node_line n a) (node_line n b) node_same)
