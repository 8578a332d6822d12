-- What `any` says of the arrows.
use mathlib.Core.Path.{◌≡◌, refl, subst}
use mathlib.Core.Logic.{◌↔◌, ◌⊎◌, inl, inr, ⊎_elim}
use mathlib.Core.List.{List, [], ◌∷◌}
use mathlib.Core.List.Memᴰ
use mathlib.Core.List.{Memᴰ}
use mathlib.Core.Bool.{Bool, true, false≢true}
use Rattle.base.proofs.Truth.{or_iff}
use Rattle.tctl.specs.Chart.{Arrow}
use Rattle.minutes.specs.Table.{any}

module _ (f : Arrow → Bool) where
  any_found : (arrows : List Arrow) → any f arrows ≡ true → (a : Arrow) × Memᴰ a arrows × (f a ≡ true)
  unfolding any
  any_found [] h = absurd (false≢true h)
  any_found (b ∷ arrows) h = turn (any_found arrows) ((or_iff (f b) (any f arrows)).0 h)
    where
      turn :
          (any f arrows ≡ true → (a : Arrow) × Memᴰ a arrows × (f a ≡ true)) →
          (f b ≡ true) ⊎ (any f arrows ≡ true) → (a : Arrow) × Memᴰ a (b ∷ arrows) × (f a ≡ true)
      turn ih (inl e) = (b, Memᴰ.head refl, e)
      turn ih (inr e) = let w = ih e in (w.0, Memᴰ.tail w.1, w.2)

  any_true : (arrows : List Arrow) {a : Arrow} → Memᴰ a arrows → f a ≡ true → any f arrows ≡ true
  unfolding any
  any_true [] m e = absurd (Memᴰ.not-nil m)
  any_true (b ∷ arrows) m e =
      (or_iff (f b) (any f arrows)).1
      (⊎_elim (λ i. inl (subst (λ c. f c ≡ true) i e)) (λ k. inr (any_true arrows k e)) (Memᴰ.cases_cons m))

  pub any_iff :
      {P : Arrow → Type 0} → ((a : Arrow) → (f a ≡ true) ↔ P a) → (arrows : List Arrow) →
      (any f arrows ≡ true) ↔ ((a : Arrow) × Memᴰ a arrows × P a)
  any_iff i arrows = (
    λ h. let w = any_found arrows h in (w.0, w.1, (i w.0).0 w.2),
    λ w. any_true arrows w.1 ((i w.0).1 w.2),
  )

-- tests that agree on the arrows
pub any_same :
    (f g : Arrow → Bool) (arrows : List Arrow) → ((a : Arrow) → Memᴰ a arrows → f a ≡ g a) →
    any f arrows ≡ any g arrows
unfolding any
any_same f g [] h = refl
any_same f g (a ∷ arrows) h =
    let first = h a (Memᴰ.head refl) in
    let rest = any_same f g arrows (λ b m. h b (Memᴰ.tail m)) in
    cc
