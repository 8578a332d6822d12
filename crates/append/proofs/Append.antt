-- Pieces appended one after another.
use mathlib.Core.Path.{◌≡◌, refl, sym, ap, subst, ◌∙◌}
use mathlib.Core.List.{List, [], ◌∷◌, ◌++◌}
use Prim.Native.Nat.{ℕ, suc, ◌+◌, ◌≤◌}
use native.Mathlib.Omega.{arith}
use lib.ListN.{length, set, take, drop, length-append, length-take}
use lib.Seq.{sets, length-sets, sets-eq}
use Rattle.append.specs.Piece.{Room, Appended, AtFront}

-- two runs of stores: by induction on the first
sets_append : (old : List ℕ) (at : ℕ) (s t : List ℕ) → sets old at (s ++ t) ≡ sets (sets old at s) (at + length s) t
sets_append old at [] t = ap (λ (k : ℕ). sets old k t) (omega arith)
sets_append old at (x ∷ s) t =
    sets_append (set old at x) (suc at) s t ∙ ap (λ (k : ℕ). sets (sets (set old at x) (suc at) s) k t) (omega arith)

pub appended_none : {at : ℕ} {old : List ℕ} → Appended at [] at old old
appended_none = record { end = omega arith; bytes = refl }

-- the same text
pub appended_text :
    {at r : ℕ} {s t old new : List ℕ} → s ≡ t → Appended at s r old new → Appended at t r old new
appended_text {at} {r} {old = old} {new} e p = subst (λ (text : List ℕ). Appended at text r old new) e p

pub room_text : {at : ℕ} {s t out : List ℕ} → s ≡ t → Room at s out → Room at t out
room_text {at} {out = out} e h = subst (λ (text : List ℕ). Room at text out) e h

-- the length is kept
pub appended_size : {at r : ℕ} {text old new : List ℕ} → Appended at text r old new → length new ≡ length old
appended_size {at} {r} {text} {old} p = ap length p.bytes ∙ length-sets old at text

-- one piece after another is both as one piece
pub appended_both :
    {at mid r : ℕ} {s t old between new : List ℕ} → Appended at s mid old between → Appended mid t r between new →
    Appended at (s ++ t) r old new
appended_both {at} {mid} {r} {s} {t} {old} {between} p q =
    record {
      end = omega (arith, p.end, q.end, length-append s t);
      bytes =
          q.bytes ∙
          ap (λ (k : ℕ). sets between k t) p.end ∙
          ap (λ (l : List ℕ). sets l (at + length s) t) p.bytes ∙
          sym (sets_append old at s t);
    }

-- room for both is room for the first, and for the second once the first is there
pub room_first : {at : ℕ} (s t : List ℕ) {out : List ℕ} → Room at (s ++ t) out → Room at s out
room_first s t h = record { fits = omega (arith, h.fits, length-append s t) }

pub room_second :
    {at mid : ℕ} {s old between : List ℕ} (t : List ℕ) → Appended at s mid old between → Room at (s ++ t) old →
    Room mid t between
room_second {s = s} t p h = record { fits = omega (arith, h.fits, length-append s t, p.end, appended_size p) }

-- room for four parts is room for each beginning of them
pub room_parts :
    {at : ℕ} (a b c d : List ℕ) {out : List ℕ} → Room at (a ++ b ++ c ++ d) out →
    Room at a out × Room at (a ++ b) out × Room at (a ++ b ++ c) out
room_parts a b c d h =
    let three = room_first (a ++ b ++ c) d h in
    let two = room_first (a ++ b) c three in
    (room_first a b two, two, three)

-- a piece that stands from 0 on
pub at_front :
    {r : ℕ} {text old new : List ℕ} → Room 0 text old → Appended 0 text r old new → AtFront text r old new
at_front {text = text} {old} h p =
    let e : 0 + length text ≡ length text = omega arith in
    record {
      end = omega (arith, p.end);
      bytes = p.bytes ∙ sets-eq text old 0 h.fits ∙ ap (λ (k : ℕ). text ++ drop k old) e;
    }

pub at_front_text : {r : ℕ} {s t old new : List ℕ} → s ≡ t → AtFront s r old new → AtFront t r old new
at_front_text {r} {old = old} {new} e h = subst (λ (text : List ℕ). AtFront text r old new) e h

-- it lies in the buffer
pub at_front_counts :
    {r : ℕ} {text old new : List ℕ} → AtFront text r old new → (r ≤ length new) × (r ≡ length (take r new))
at_front_counts {r} {text} {old} {new} h =
    let size = ap length h.bytes ∙ length-append text (drop (length text) old) in
    (omega (arith, h.end, size), omega (arith, h.end, size, length-take r new))

-- nothing at the front leaves all as it was
pub at_front_none : {old : List ℕ} → AtFront [] 0 old old
at_front_none = record { end = refl; bytes = refl }
