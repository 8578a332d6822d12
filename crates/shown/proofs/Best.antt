-- The greatest number of the arrows, and the first arrow that passes a test.
use mathlib.Core.Path.{◌≡◌, refl, sym, subst, ap, ap₂, ◌∙◌}
use mathlib.Core.Logic.{◌⊎◌, inl, inr, ⊎_elim, by_cases}
use mathlib.Core.List.{List, [], ◌∷◌}
use mathlib.Core.List.Memᴰ
use mathlib.Core.List.{Memᴰ}
use mathlib.Core.Bool.{Bool, true, false, cond, false≢true}
use Prim.Native.Nat.{ℕ, zero, suc, ◌≤◌, ◌<◌, max}
use native.Mathlib.Omega.{arith}
use native.Mathlib.Decide.{dec_le}
use Rattle.base.specs.Tabulate.{tabulate}
use Rattle.base.proofs.Truth.{cond_elim}
use Rattle.tctl.specs.Chart.{Arrow}
use Rattle.shown.specs.Steps.{best, first_arrow}

module _ (f : Arrow → ℕ) where
  pub best_ge : (arrows : List Arrow) {a : Arrow} → Memᴰ a arrows → f a ≤ best f arrows
  unfolding best
  best_ge [] m = absurd (Memᴰ.not-nil m)
  best_ge (b ∷ arrows) {a} m =
      ⊎_elim (λ e. let z : f a ≤ f b = subst (λ x. f a ≤ f x) e (omega arith) in omega arith)
      (λ k. omega (arith, best_ge arrows k)) (Memᴰ.cases_cons m)

  -- above 0 it is some arrow's
  pub best_found : (arrows : List Arrow) → 1 ≤ best f arrows → (a : Arrow) × Memᴰ a arrows × (f a ≡ best f arrows)
  unfolding best
  best_found [] h = absurd (let z : ⊥ = omega arith in z)
  best_found (b ∷ arrows) h = turn (best_found arrows) (dec_le (best f arrows) (f b))
    where
      turn :
          (1 ≤ best f arrows → (a : Arrow) × Memᴰ a arrows × (f a ≡ best f arrows)) →
          Dec (best f arrows ≤ f b) → (a : Arrow) × Memᴰ a (b ∷ arrows) × (f a ≡ max (f b) (best f arrows))
      turn ih (yes l) = (b, Memᴰ.head refl, omega arith)
      turn ih (no l) = let w = ih (omega arith) in (w.0, Memᴰ.tail w.1, omega (arith, w.2))

-- the same of every arrow, the same greatest
pub best_same :
    (f g : Arrow → ℕ) (arrows : List Arrow) → ((a : Arrow) → Memᴰ a arrows → f a ≡ g a) →
    best f arrows ≡ best g arrows
unfolding best
best_same f g [] h = refl
best_same f g (a ∷ arrows) h =
    ap₂ max (h a (Memᴰ.head refl)) (best_same f g arrows (λ b m. h b (Memᴰ.tail m)))

-- a function that grows and keeps 0 goes through the greatest
pub best_map :
    (g : ℕ → ℕ) → g 0 ≡ 0 → ((v w : ℕ) → v ≤ w → g v ≤ g w) → (f : Arrow → ℕ) (arrows : List Arrow) →
    g (best f arrows) ≡ best (λ a. g (f a)) arrows
unfolding best
best_map g none mono f [] = none
best_map g none mono f (a ∷ arrows) = greatest (f a) (best f arrows) ∙ ap (max (g (f a))) (best_map g none mono f arrows)
  where
    greatest : (v w : ℕ) → g (max v w) ≡ max (g v) (g w)
    greatest v w =
        by_cases (dec_le v w)
        (λ l. let e : max v w ≡ w = omega arith in ap g e ∙ omega (arith, mono v w l))
        (λ l. let e : max v w ≡ v = omega arith in ap g e ∙ omega (arith, mono w v (omega arith)))

pub best_le :
    (f : Arrow → ℕ) (h : ℕ) → ((a : Arrow) → f a ≤ h) → (arrows : List Arrow) → best f arrows ≤ h
unfolding best
best_le f h low [] = omega arith
best_le f h low (a ∷ arrows) = omega (arith, low a, best_le f h low arrows)

-- what is so of every arrow of the list, and of the arrow of an empty one, is so of the first_arrow that passes
pub first_elim :
    (P : Arrow → Type 0) (g : Arrow → Bool) (arrows : List Arrow) → ((a : Arrow) → Memᴰ a arrows → P a) →
    P (first_arrow g []) → P (first_arrow g arrows)
unfolding first_arrow
first_elim P g [] f h = h
first_elim P g (a ∷ arrows) f h =
    let rest = first_elim P g arrows (λ b m. f b (Memᴰ.tail m)) h in
    cond_elim P (g a) (λ e. f a (Memᴰ.head refl)) (λ e. rest)

pub first_same :
    (f g : Arrow → Bool) (arrows : List Arrow) → ((a : Arrow) → Memᴰ a arrows → f a ≡ g a) →
    first_arrow f arrows ≡ first_arrow g arrows
unfolding first_arrow
first_same f g [] h = refl
first_same f g (a ∷ arrows) h =
    ap₂ (λ b rest. cond b a rest) (h a (Memᴰ.head refl)) (first_same f g arrows (λ b m. h b (Memᴰ.tail m)))

-- if an arrow of the list passes, the first_arrow that passes is one of the list
pub first_found :
    (g : Arrow → Bool) (arrows : List Arrow) {a : Arrow} → Memᴰ a arrows → g a ≡ true →
    Memᴰ (first_arrow g arrows) arrows × (g (first_arrow g arrows) ≡ true)
unfolding first_arrow
first_found g [] m e = absurd (Memᴰ.not-nil m)
first_found g (b ∷ arrows) {a} m e = turn (λ k. first_found g arrows k e) (g b) refl (Memᴰ.cases_cons m)
  where
    turn :
        (Memᴰ a arrows → Memᴰ (first_arrow g arrows) arrows × (g (first_arrow g arrows) ≡ true)) →
        (t : Bool) → g b ≡ t → (a ≡ b) ⊎ Memᴰ a arrows →
        Memᴰ (cond t b (first_arrow g arrows)) (b ∷ arrows) × (g (cond t b (first_arrow g arrows)) ≡ true)
    turn ih true h w = (Memᴰ.head refl, h)
    turn ih false h (inl w) = absurd (false≢true (sym h ∙ subst (λ x. g x ≡ true) w e))
    turn ih false h (inr w) = let v = ih w in (Memᴰ.tail v.0, v.1)

-- ── Arrow by arrow ──

-- one more arrow
pub best_last :
    (f : Arrow → ℕ) (i : ℕ) (g : ℕ → Arrow) →
    best f (tabulate (suc i) g) ≡ max (best f (tabulate i g)) (f (g i))
unfolding best tabulate
best_last f zero g = omega arith
best_last f (suc i) g = omega (arith, best_last f i (λ j. g (suc j)))

-- the lowest number of an arrow that passes the test
pub first_lowest :
    (t : Arrow → Bool) (m i : ℕ) (g : ℕ → Arrow) → i < m → t (g i) ≡ true → ((j : ℕ) → j < i → t (g j) ≡ false) →
    first_arrow t (tabulate m g) ≡ g i
unfolding first_arrow tabulate
first_lowest t zero i g l e none = absurd (let z : ⊥ = omega arith in z)
first_lowest t (suc m) zero g l e none = ap (λ b. cond b (g 0) (first_arrow t (tabulate m (λ j. g (suc j))))) e
first_lowest t (suc m) (suc i) g l e none =
    ap (λ b. cond b (g 0) (first_arrow t (tabulate m (λ j. g (suc j))))) (none 0 (omega arith)) ∙
    first_lowest t m i (λ j. g (suc j)) (omega arith) e (λ j k. none (suc j) (omega arith))
