-- Texts one after another, as a loop appends them.
use mathlib.Core.Path.{◌≡◌, refl, subst}
use mathlib.Core.List.{List}
use Prim.Native.Nat.{ℕ, zero, suc, ◌+◌, ◌*◌, ◌-◌, ◌≤◌, ◌<◌}
use native.Mathlib.Omega.{arith}
use lib.ListN.{length, length-append}
use Rattle.listing.specs.Text.{joined}
use Rattle.append.specs.Piece.{Room, Appended}
use Rattle.append.proofs.Append.{appended_none, appended_both, room_second}

pub joined_none : (f : ℕ → List ℕ) {at : ℕ} {old : List ℕ} → Appended at (joined 0 f) at old old
unfolding joined
joined_none f = appended_none

module _ (f : ℕ → List ℕ) where
  -- one text more
  pub joined_more :
      (i : ℕ) {at mid r : ℕ} {old between new : List ℕ} →
      Appended at (joined i f) mid old between → Appended mid (f i) r between new →
      Appended at (joined (i + 1) f) r old new
  unfolding joined
  joined_more i {at} {r = r} {old = old} {new = new} p q =
      let e : suc i ≡ i + 1 = omega arith in
      subst (λ (k : ℕ). Appended at (joined k f) r old new) e (appended_both p q)

  -- the texts before i are no longer than those before i + more
  grows : (i more : ℕ) → length (joined i f) ≤ length (joined (i + more) f)
  unfolding joined
  grows i zero = let e : i + 0 ≡ i = omega arith in rw e (omega arith)
  grows i (suc more) =
      let e : i + suc more ≡ suc (i + more) = omega arith in
      rw e (omega (arith, grows i more, length-append (joined (i + more) f) (f (i + more))))

  -- room for k texts is room for text i once those before it are there
  pub joined_room :
      (i k : ℕ) {at mid : ℕ} {old between : List ℕ} →
      Appended at (joined i f) mid old between → i < k → Room at (joined k f) old → Room mid (f i) between
  unfolding joined
  joined_room i k {at} {old = old} p l h =
      let e : suc i + (k - suc i) ≡ k = omega arith in
      let g = subst (λ (j : ℕ). length (joined (suc i) f) ≤ length (joined j f)) e (grows (suc i) (k - suc i)) in
      room_second (f i) p (record { fits = omega (arith, g, h.fits) })

-- texts of at most b bytes each
pub joined_size :
    (k b : ℕ) (f : ℕ → List ℕ) → ((i : ℕ) → i < k → length (f i) ≤ b) → length (joined k f) ≤ k * b
unfolding joined
joined_size zero b f h = omega arith
joined_size (suc k) b f h =
    let ih = joined_size k b f (λ i l. h i (omega arith)) in
    omega (arith, ih, h k (omega arith), length-append (joined k f) (f k))

-- the same texts
pub joined_same :
    (k : ℕ) (f g : ℕ → List ℕ) → ((i : ℕ) → i < k → f i ≡ g i) → joined k f ≡ joined k g
unfolding joined
joined_same zero f g h = refl
joined_same (suc k) f g h = let e = joined_same k f g (λ i l. h i (omega arith)) in let d = h k (omega arith) in cc
