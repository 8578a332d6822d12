-- Truth values: what a test says that is put together from others, and proofs by a test.
use mathlib.Core.Path.{◌≡◌, refl, sym}
use mathlib.Core.Logic.Iff
use mathlib.Core.Logic.{◌↔◌, ◌⊎◌, inl, inr, ⊎_map}
use mathlib.Core.Bool.{Bool, true, false, not, cond, ◌&&◌, ◌||◌, beq, Bool-discrete, false≢true}
use Prim.Native.Nat.{ℕ, ◌≤◌}
use native.Mathlib.Omega.{arith}
use Rattle.base.specs.Yes.{Yes}

pub yes_dec : (f : ℕ → Bool) (s : ℕ) → Dec (Yes f s)
yes_dec f s = Bool-discrete (f s) true

pub true_or_false : (b : Bool) → (b ≡ true) ⊎ (b ≡ false)
true_or_false true = inl refl
true_or_false false = inr refl

pub not_iff : (b : Bool) → (not b ≡ true) ↔ (¬ (b ≡ true))
not_iff true = (λ e f. false≢true e, λ h. absurd (h refl))
not_iff false = (λ e f. false≢true f, λ h. refl)

pub and_iff : (b c : Bool) → ((b && c) ≡ true) ↔ ((b ≡ true) × (c ≡ true))
and_iff true c = (λ e. (refl, e), λ h. h.1)
and_iff false c = (λ e. absurd (false≢true e), λ h. h.0)

pub and_false : (b c : Bool) → (b && c) ≡ false → b ≡ true → c ≡ false
and_false true c e f = e
and_false false c e f = absurd (false≢true f)

pub or_iff : (b c : Bool) → ((b || c) ≡ true) ↔ ((b ≡ true) ⊎ (c ≡ true))
or_iff true c = (λ e. inl refl, λ h. refl)
or_iff false c = (λ e. inr e, up)
  where
    up : (false ≡ true) ⊎ (c ≡ true) → c ≡ true
    up (inl e) = absurd (false≢true e)
    up (inr e) = e

pub or_false : (b c : Bool) → (b || c) ≡ false → (b ≡ false) × (c ≡ false)
or_false true c e = absurd (false≢true (sym e))
or_false false c e = (refl, e)

-- tests that decide A and B decide both together, and either
pub both_iff : {A B : Type 0} {b c : Bool} → (b ≡ true) ↔ A → (c ≡ true) ↔ B → ((b && c) ≡ true) ↔ (A × B)
both_iff {b = b} {c} i j = Iff.trans (and_iff b c) (Iff.and i j)

pub either_iff : {A B : Type 0} {b c : Bool} → (b ≡ true) ↔ A → (c ≡ true) ↔ B → ((b || c) ≡ true) ↔ (A ⊎ B)
either_iff {b = b} {c} i j = Iff.trans (or_iff b c) (⊎_map i.0 j.0, ⊎_map i.1 j.1)

-- tests whose no decides A and B: both say no just where both are so
pub neither_iff : {A B : Type 0} {b c : Bool} → (b ≡ false) ↔ A → (c ≡ false) ↔ B → ((b || c) ≡ false) ↔ (A × B)
neither_iff {b = b} {c} i j = Iff.trans (or_false b c, λ h. rw (h.0, h.1)) (Iff.and i j)

-- values that are found the same, or found not to differ
pub same_true : (b c : Bool) → beq b c ≡ true → b ≡ c
same_true true true e = refl
same_true true false e = sym e
same_true false true e = e
same_true false false e = refl

pub differ_false : (b c : Bool) → not (beq b c) ≡ false → b ≡ c
differ_false true true e = refl
differ_false true false e = e
differ_false false true e = sym e
differ_false false false e = refl

-- a choice has what both of its sides have
pub cond_elim {ℓ κ} :
    {A : Type ℓ} (P : A → Type κ) (b : Bool) {x y : A} → (b ≡ true → P x) → (b ≡ false → P y) → P (cond b x y)
cond_elim P true f g = f refl
cond_elim P false f g = g refl

-- a test decides what it proves and refutes
pub decides : {A : Type 0} (b : Bool) → (b ≡ true → A) → (b ≡ false → ¬ A) → (b ≡ true) ↔ A
decides true f g = (f, λ a. refl)
decides false f g = (f, λ a. absurd (g refl a))

-- a test of what is not so says no
pub no_test : {A : Type 0} {b : Bool} → (b ≡ true) ↔ A → ¬ A → b ≡ false
no_test {b = true} f h = absurd (h (f.0 refl))
no_test {b = false} f h = refl

-- ── 1 for true and 0 for false ──

pub one_le : (b : Bool) → cond b 1 0 ≤ 1
one_le true = omega arith
one_le false = omega arith

pub one_true : (b : Bool) → 1 ≤ cond b 1 0 → b ≡ true
one_true true h = refl
one_true false h = absurd (let z : ⊥ = omega arith in z)
