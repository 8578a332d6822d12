-- What `every` says of the elements of a list.
use mathlib.Core.Path.{◌≡◌, refl, sym, subst}
use mathlib.Core.Logic.{◌⊎◌, inl, inr, ⊎_elim}
use mathlib.Core.List.{List, [], ◌∷◌}
use mathlib.Core.List.Memᴰ
use mathlib.Core.List.{Memᴰ}
use mathlib.Core.Bool.{Bool, true, false, false≢true}
use Rattle.base.proofs.Truth.{and_iff, and_false, true_or_false}
use Rattle.base.specs.Every.{every}

module _ {A : Type 0} (f : A → Bool) where
  pub every_true : (l : List A) → every f l ≡ true → {a : A} → Memᴰ a l → f a ≡ true
  unfolding every
  every_true [] h m = absurd (Memᴰ.not-nil m)
  every_true (b ∷ l) h {a} m =
      let w = (and_iff (f b) (every f l)).0 h in
      ⊎_elim (λ e. subst (λ c. f c ≡ true) (sym e) w.0) (λ k. every_true l w.1 k) (Memᴰ.cases_cons m)

  pub every_false : (l : List A) → every f l ≡ false → (a : A) × Memᴰ a l × (f a ≡ false)
  unfolding every
  every_false [] h = absurd (false≢true (sym h))
  every_false (b ∷ l) h = turn (every_false l) (true_or_false (f b))
    where
      turn :
          (every f l ≡ false → (a : A) × Memᴰ a l × (f a ≡ false)) → (f b ≡ true) ⊎ (f b ≡ false) →
          (a : A) × Memᴰ a (b ∷ l) × (f a ≡ false)
      turn ih (inl e) = let w = ih (and_false (f b) (every f l) h e) in (w.0, Memᴰ.tail w.1, w.2)
      turn ih (inr e) = (b, Memᴰ.head refl, e)

-- tests that agree on the elements
pub every_same :
    {A : Type 0} (f g : A → Bool) (l : List A) → ((a : A) → Memᴰ a l → f a ≡ g a) → every f l ≡ every g l
unfolding every
every_same f g [] h = refl
every_same f g (a ∷ l) h =
    let first = h a (Memᴰ.head refl) in
    let rest = every_same f g l (λ b m. h b (Memᴰ.tail m)) in
    cc
