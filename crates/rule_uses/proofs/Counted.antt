-- The sets of used nodes, one use after the other.
use mathlib.Core.Path.{◌≡◌, refl, sym, ap, ap₂, ◌∙◌}
use mathlib.Core.Bool.{Bool, true, false, not, cond, ◌||◌, ◌&&◌}
use Prim.Native.Nat.{ℕ, zero, suc, ◌+◌, ◌≤◌, ◌<◌}
use native.Mathlib.Nat.{add-zero}
use native.Mathlib.Omega.{arith}
use lib.Dec.{eqb, leb}
use borrow.Author.Tests.{le-leb, lt-leb, ne_eqb, eqb-true}
use Rattle.masks.specs.Member.{member, Put}
use Rattle.rule.specs.Form.{form_of}
use Rattle.rule.specs.Refusals.{names, uses_in}
use Rattle.rule_uses.specs.Counted.{Reaches, Counted}
use Rattle.rule.specs.declared.NodeWords.{NodeWords}
use Rattle.rule_uses.specs.declared.Used.{Used}

-- one more reaches j if all but one of it was reached
reached : (j x : ℕ) (b : Bool) → (b ≡ true → j ≤ suc x) → (b || leb j x) ≡ leb j (x + cond b 1 0)
reached j x true h = sym (le-leb j (x + 1) (omega (arith, h refl)))
reached j x false h = ap (leb j) (sym (add-zero x))

-- and nothing if more of it was left
unreached : (j x : ℕ) (b : Bool) → (b ≡ true → suc x < j) → leb j x ≡ leb j (x + cond b 1 0)
unreached j x true h = lt-leb j x (omega (arith, h refl)) ∙ sym (lt-leb j (x + 1) (omega (arith, h refl)))
unreached j x false h = ap (leb j) (sym (add-zero x))

-- a test of the set tells of the count
pub tested :
    {j mask : ℕ} {count : ℕ → ℕ} → Reaches j mask count → {r b : Bool} (v : ℕ) → v < 64 → r ≡ member mask v → r ≡ b →
    leb j (count v) ≡ b
tested h v l e f = sym (h.tells v l) ∙ sym e ∙ f

-- a use of v: v is put in the set, or the set is kept
module _ {count : ℕ → ℕ} {j mask : ℕ} (h : Reaches j mask count) (v : ℕ) where
  pub put : {new : ℕ} → Put v mask new → j ≤ suc (count v) → Reaches j new (λ u. count u + names true v u)
  put p k =
      record {
        tells = λ u l.
            p.tells u ∙ ap (λ b. eqb v u || b) (h.tells u l) ∙
            reached j (count u) (eqb v u) (λ e. omega (arith, ap count (eqb-true v u e)));
      }

  pub kept : suc (count v) < j → Reaches j mask (λ u. count u + names true v u)
  kept k =
      record { tells = λ u l. h.tells u l ∙ unreached j (count u) (eqb v u) (λ e. omega (arith, ap count (eqb-true v u e))) }

pub counted_same : {used : Used} {f g : ℕ → ℕ} → Counted used f → ((v : ℕ) → f v ≡ g v) → Counted used g
counted_same h e =
    record {
      once = record { tells = λ v l. h.once.tells v l ∙ ap (leb 1) (e v) };
      again = record { tells = λ v l. h.again.tells v l ∙ ap (leb 2) (e v) };
    }

-- what a node uses, by whether it has a left operand and a right one
pub uses_by :
    (w : NodeWords) {a b : Bool} → leb 2 (form_of w.operation) ≡ a → leb 3 (form_of w.operation) ≡ b →
    (v : ℕ) → uses_in v w ≡ names a w.a v + names b w.b v
unfolding uses_in
uses_by w e f v = ap₂ (λ a b. names a w.a v + names b w.b v) e f

-- 1 or more and not 2 or more
pub exactly_one : (x : ℕ) → (leb 1 x && not (leb 2 x)) ≡ eqb x 1
exactly_one zero = refl
exactly_one (suc zero) = refl
exactly_one (suc (suc x)) = rw (le-leb 1 (suc (suc x)) (omega arith), le-leb 2 (suc (suc x)) (omega arith), ne_eqb (suc (suc x)) 1 (λ e. omega arith))
