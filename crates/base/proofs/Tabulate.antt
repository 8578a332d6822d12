-- The laws of tabulate: its length, its entries and its members.
use mathlib.Core.Path.{◌≡◌, refl, sym, ap, ◌∙◌}
use mathlib.Core.Logic.{◌⊎◌, inl, inr}
use mathlib.Core.List.{List, ◌∷◌, map}
use mathlib.Core.List.Memᴰ
use mathlib.Core.List.{Memᴰ}
use Prim.Native.Nat.{ℕ, zero, suc, ◌<◌}
use native.Mathlib.Omega.{arith}
use lib.ListN.{length, get_or}
use lib.Seq.{ext_get_or}
use Rattle.base.specs.Tabulate.{tabulate}

module _ {ℓ} {A : Type ℓ} where
  pub length_tabulate : (n : ℕ) (f : ℕ → A) → length (tabulate n f) ≡ n
  unfolding tabulate
  length_tabulate zero f = refl
  length_tabulate (suc n) f = ap suc (length_tabulate n (λ i. f (suc i)))

  pub get_d_tabulate : (n : ℕ) (f : ℕ → A) (d : A) (i : ℕ) → i < n → get_or (tabulate n f) i d ≡ f i
  unfolding tabulate
  get_d_tabulate zero f d i h = absurd (let z : ⊥ = omega arith in z)
  get_d_tabulate (suc n) f d zero h = refl
  get_d_tabulate (suc n) f d (suc i) h = get_d_tabulate n (λ i. f (suc i)) d i (omega arith)

  -- a list is tabulated if its entries are
  pub tabulate_ext :
      (n : ℕ) (f : ℕ → A) (d : A) (l : List A) → length l ≡ n → ((i : ℕ) → i < n → get_or l i d ≡ f i) → l ≡ tabulate n f
  tabulate_ext n f d l e h =
      ext_get_or d l (tabulate n f) (e ∙ sym (length_tabulate n f))
      (λ i k. let m : i < n = omega (arith, e) in h i m ∙ sym (get_d_tabulate n f d i m))

  pub tabulate_same :
      (n : ℕ) (f g : ℕ → A) → ((i : ℕ) → i < n → f i ≡ g i) → tabulate n f ≡ tabulate n g
  unfolding tabulate
  tabulate_same zero f g h = refl
  tabulate_same (suc n) f g h =
      let first = h 0 (omega arith) in
      let rest = tabulate_same n (λ i. f (suc i)) (λ i. g (suc i)) (λ i l. h (suc i) (omega arith)) in
      cc

  pub mem_tabulate : (n : ℕ) (f : ℕ → A) (i : ℕ) → i < n → Memᴰ (f i) (tabulate n f)
  unfolding tabulate
  mem_tabulate zero f i h = absurd (let z : ⊥ = omega arith in z)
  mem_tabulate (suc n) f zero h = Memᴰ.head refl
  mem_tabulate (suc n) f (suc i) h = Memᴰ.tail (mem_tabulate n (λ i. f (suc i)) i (omega arith))

  pub tabulate_mem : (n : ℕ) (f : ℕ → A) {a : A} → Memᴰ a (tabulate n f) → (i : ℕ) × (i < n) × (a ≡ f i)
  unfolding tabulate
  tabulate_mem zero f m = absurd (Memᴰ.not-nil m)
  tabulate_mem (suc n) f {a} m = turn (λ k. tabulate_mem n (λ i. f (suc i)) k) (Memᴰ.cases_cons m)
    where
      turn :
          (Memᴰ a (tabulate n (λ i. f (suc i))) → (i : ℕ) × (i < n) × (a ≡ f (suc i))) →
          (a ≡ f 0) ⊎ Memᴰ a (tabulate n (λ i. f (suc i))) →
          (i : ℕ) × (i < suc n) × (a ≡ f i)
      turn ih (inl e) = (0, omega arith, e)
      turn ih (inr k) = let w = ih k in (suc w.0, omega (arith, w.1), w.2)

pub map_tabulate : {A B : Type 0} (f : A → B) (n : ℕ) (g : ℕ → A) → map f (tabulate n g) ≡ tabulate n (λ i. f (g i))
unfolding tabulate
map_tabulate f zero g = refl
map_tabulate f (suc n) g = ap (λ l. f (g 0) ∷ l) (map_tabulate f n (λ i. g (suc i)))
