-- Conditions on the whole that are not met.
use mathlib.Core.Path.{◌≡◌, refl, ap}
use mathlib.Core.Bool.{Bool, true, false, not}
use mathlib.Core.Option.{none, some-ne-none}
use Prim.Native.Nat.{ℕ, ◌≤◌}
use lib.Dec.{ltb, eqb}
use borrow.Author.Tests.{ltb-false, le-ltb}
use Rattle.base.proofs.Truth.{or_false}
use Rattle.base.proofs.Compare.{not_differ_iff}
use Rattle.outcome.specs.Refusal.{whole, outside}

pub whole_none : (b : Bool) → whole b ≡ none → b ≡ false
whole_none false e = refl
whole_none true e = absurd (some-ne-none 0 e)

-- two numbers that must be the same
pub none_equal : (a b : ℕ) → whole (not (eqb a b)) ≡ none → a ≡ b
none_equal a b e = (not_differ_iff a b).0 (whole_none (not (eqb a b)) e)

pub equal_none : {a b : ℕ} → a ≡ b → whole (not (eqb a b)) ≡ none
equal_none {a} {b} e = ap whole ((not_differ_iff a b).1 e)

pub inside : (a b x : ℕ) → outside a b x ≡ false → (a ≤ x) × (x ≤ b)
inside a b x e =
    let h = or_false (ltb x a) (ltb b x) e in
    (ltb-false x a h.0, ltb-false b x h.1)

pub inside_none : (a b x : ℕ) → a ≤ x → x ≤ b → whole (outside a b x) ≡ none
inside_none a b x l h = rw (le-ltb x a l, le-ltb b x h)
