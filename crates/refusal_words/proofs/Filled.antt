-- A text written into zeros is filled up with them.
use mathlib.Core.Path.{◌≡◌, ap, ◌∙◌}
use mathlib.Core.List.{List, ◌++◌}
use Prim.Native.Nat.{ℕ, zero, suc, ◌-◌, ◌<◌}
use native.Mathlib.Nat.{sub-zero, zero-sub, suc-sub-suc}
use native.Mathlib.Omega.{arith}
use lib.ListN.{length, drop, replicate, length-replicate}
use Rattle.append.specs.Piece.{Room, Appended}
use Rattle.append.proofs.Append.{at_front}
use Rattle.refusal_words.specs.Words.{filled}

drop_zeros : (k n : ℕ) → drop {A = ℕ} k (replicate n 0) ≡ replicate (n - k) 0
drop_zeros zero n = rw sub-zero
drop_zeros (suc k) zero = rw zero-sub
drop_zeros (suc k) (suc n) = rw suc-sub-suc (drop_zeros k n)

module _ (size : ℕ) {text : List ℕ} (short : length text < size) where
  pub zeros_room : Room 0 text (replicate size 0)
  zeros_room = record { fits = omega (arith, length-replicate {A = ℕ} size 0) }

  pub filled_up : {r : ℕ} {new : List ℕ} → Appended 0 text r (replicate size 0) new → new ≡ filled size text
  filled_up p = (at_front zeros_room p).bytes ∙ ap (λ (zeros : List ℕ). text ++ zeros) (drop_zeros (length text) size)
