-- Scratch after its first n numbers were used and more of them cleared.
use mathlib.Core.Path.{◌≡◌, refl, sym, ap, ◌∙◌}
use mathlib.Core.List.{List, ◌++◌}
use Prim.Native.Nat.{ℕ, ◌+◌, ◌-◌, ◌≤◌}
use native.Mathlib.Omega.{arith}
use lib.ListN.{length, take, drop, replicate, length-append, length-take, length-drop, length-replicate, get_or-replicate}
use lib.Seq.{ext_get_or, drop-append-add, drop-drop}
use Rattle.model.specs.Engine.{num}

zeros_are : (zs : List ℕ) → ((s : ℕ) → num zs s ≡ 0) → zs ≡ replicate (length zs) 0
zeros_are zs h =
    ext_get_or 0 zs (replicate (length zs) 0) (sym (length-replicate (length zs) 0))
    (λ i l. h i ∙ sym (get_or-replicate (length zs) i 0 0 l))

module _ (n size : ℕ) (scratch used : List ℕ)
    (are : length used ≡ n) (more : n ≤ size) (room : size ≤ length scratch) where
  -- what lies past the numbers that are cleared was not used
  pub unused : drop size (used ++ drop n scratch) ≡ drop size scratch
  unused =
      let past : size ≡ length used + (size - n) = omega arith in
      let all : n + (size - n) ≡ size = omega arith in
      ap (λ i. drop i (used ++ drop n scratch)) past ∙
      drop-append-add used (drop n scratch) (size - n) ∙
      drop-drop (size - n) n scratch ∙
      ap (λ i. drop i scratch) all

  pub used_size : size ≤ length (used ++ drop n scratch)
  used_size = omega (arith, length-append used (drop n scratch), length-drop n scratch)

  pub used_front : size ≡ length (take size (used ++ drop n scratch))
  used_front = omega (arith, used_size, length-take size (used ++ drop n scratch))

  pub cleared_front :
      (zs : List ℕ) → length zs ≡ length (take size (used ++ drop n scratch)) → ((s : ℕ) → num zs s ≡ 0) →
      zs ++ drop size (used ++ drop n scratch) ≡ replicate size 0 ++ drop size scratch
  cleared_front zs l h =
      let z : zs ≡ replicate size 0 = zeros_are zs h ∙ ap (λ i. replicate i 0) (l ∙ sym used_front) in
      rw (z, unused) refl
