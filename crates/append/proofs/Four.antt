-- Four pieces one after another.
use mathlib.Core.Path.{◌≡◌}
use mathlib.Core.List.{List, ◌++◌}
use Prim.Native.Nat.{ℕ, ◌+◌}
use lib.ListN.{length, length-append}
use Rattle.append.specs.Piece.{Room, Appended}
use Rattle.append.proofs.Append.{appended_both, room_second, room_parts}

-- there is room for each once those before it are there
pub record Rooms (at : ℕ) (a b c d old : List ℕ) : Type 0 where
  pub one : Room at a old
  pub two : {i : ℕ} {s : List ℕ} → Appended at a i old s → Room i b s
  pub three : {i j : ℕ} {s t : List ℕ} → Appended at a i old s → Appended i b j s t → Room j c t
  pub four :
      {i j k : ℕ} {s t u : List ℕ} →
      Appended at a i old s → Appended i b j s t → Appended j c k t u → Room k d u

-- room for all is room for each
pub rooms : {at : ℕ} (a b c d : List ℕ) {old : List ℕ} → Room at (a ++ b ++ c ++ d) old → Rooms at a b c d old
rooms a b c d h =
    let parts = room_parts a b c d h in
    record {
      one = parts.0;
      two = λ p. room_second b p parts.1;
      three = λ p q. room_second c (appended_both p q) parts.2;
      four = λ p q r. room_second d (appended_both (appended_both p q) r) h;
    }

pub appended_four :
    {at i j k l : ℕ} {a b c d old s t u new : List ℕ} →
    Appended at a i old s → Appended i b j s t → Appended j c k t u → Appended k d l u new →
    Appended at (a ++ b ++ c ++ d) l old new
appended_four p q r v = appended_both (appended_both (appended_both p q) r) v

pub length_four :
    (a b c d : List ℕ) → length (a ++ b ++ c ++ d) ≡ length a + length b + length c + length d
length_four a b c d = simp length-append
