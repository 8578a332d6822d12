-- Tests: two that decide the same, and what two say together.
use mathlib.Core.Path.{◌≡◌, refl, sym}
use mathlib.Core.Logic.{◌↔◌, ◌⊎◌, inl, inr, ⊎_elim}
use mathlib.Core.Bool.{Bool, true, false, not, ◌||◌}
use Rattle.base.proofs.Truth.{not_iff, or_iff}

pub decide_same : {A : Type 0} (b c : Bool) → (b ≡ true) ↔ A → (c ≡ true) ↔ A → b ≡ c
decide_same true c i j = sym (j.1 (i.0 refl))
decide_same false true i j = i.1 (j.0 refl)
decide_same false false i j = refl

-- neither says yes
pub nor_iff : (b c : Bool) → (not (b || c) ≡ true) ↔ ((¬ (b ≡ true)) × (¬ (c ≡ true)))
nor_iff b c =
    let n = not_iff (b || c) in
    let o = or_iff b c in (
      λ h. (λ e. n.0 h (o.1 (inl e)), λ e. n.0 h (o.1 (inr e))),
      λ f. n.1 (λ e. ⊎_elim f.0 f.1 (o.0 e)),
    )

-- neither says yes, or the second does, or the first alone
pub three_ways : (b c : Bool) → (not (b || c) ≡ true) ⊎ ((c ≡ true) ⊎ ((b ≡ true) × (not c ≡ true)))
three_ways b true = inr (inl refl)
three_ways true false = inr (inr (refl, refl))
three_ways false false = inl refl
