-- The kind of a node's formula from those of its operands', for both kinds at once: a case for each return of the
-- tests.
use mathlib.Core.Path.{◌≡◌, refl, sym, ap, ◌∙◌}
use mathlib.Core.Bool.{Bool, true, false, ◌&&◌}
use mathlib.Core.List.{List}
use Prim.Native.Nat.{ℕ, ◌≤◌, ◌<◌}
use native.Mathlib.Omega.{arith}
use native.Mathlib.Decide.{ℕ_discrete}
use Rattle.tctl.specs.Formula.{Formula}
use Rattle.tctl.specs.Kind.{Runs, all_runs, some_run, other, is_of}
use Rattle.rule.specs.Formula.{operation, formula_at}
use Rattle.rule.specs.declared.NodeWords.{NodeWords}
use Rattle.rule.proofs.Read.{ReadNode, step, known}

-- the operation byte of the until of a kind
abbrev pub until_of : Runs → ℕ
until_of all_runs = 6
until_of some_run = 5

module _ (k : Runs) (op : ℕ) (w : NodeWords) (at : ℕ → Formula) where
  leaf : op < 2 → is_of k (operation op w at) ≡ true
  leaf l = turn (ℕ_discrete op 0)
    where
      turn : Dec (op ≡ 0) → is_of k (operation op w at) ≡ true
      turn (yes e) = rw e
      turn (no h) = let e : op ≡ 1 = omega arith in rw e

  negated : op ≡ 2 → is_of k (operation op w at) ≡ is_of (other k) (at w.a)
  negated e = rw e

  -- "A-until is all-runs exactly if both operands are, and never some-run; E-until likewise with the kinds exchanged"
  never : op ≡ until_of (other k) → is_of k (operation op w at) ≡ false
  never e = rw e (turn k)
    where
      turn : (k : Runs) → is_of k (operation (until_of (other k)) w at) ≡ false
      turn all_runs = refl
      turn some_run = refl

  both :
      2 < op → op ≤ 6 → (op ≡ until_of (other k) → ⊥) →
      is_of k (operation op w at) ≡ (is_of k (at w.a) && is_of k (at w.b))
  both h l n = turn (ℕ_discrete op 3) (ℕ_discrete op 4) (ℕ_discrete op (until_of k))
    where
      until : (k : Runs) → is_of k (operation (until_of k) w at) ≡ (is_of k (at w.a) && is_of k (at w.b))
      until all_runs = refl
      until some_run = refl

      rest : (k : Runs) → (op ≡ until_of (other k) → ⊥) → (op ≡ until_of k → ⊥) → op ≤ 4
      rest all_runs f g = omega arith
      rest some_run f g = omega arith

      turn :
          Dec (op ≡ 3) → Dec (op ≡ 4) → Dec (op ≡ until_of k) →
          is_of k (operation op w at) ≡ (is_of k (at w.a) && is_of k (at w.b))
      turn (yes e) f g = rw e
      turn (no d) (yes e) g = rw e
      turn (no d) (no f) (yes e) = rw e (until k)
      turn (no d) (no f) (no g) = absurd (let z : ⊥ = omega (arith, rest k n g) in z)

module _ {s : List ℕ} {t : ℕ} {w : NodeWords} (node : ReadNode s t w) (k : Runs) where
  pub leaf_returns : w.operation < 2 → true ≡ is_of k (formula_at s t)
  leaf_returns h = rw (step node) (sym (leaf k w.operation w (formula_at s) h))

  pub not_returns :
      {r : Bool} → w.operation ≡ 2 → r ≡ is_of (other k) (formula_at s w.a) → r ≡ is_of k (formula_at s t)
  not_returns h e = rw (step node) (e ∙ sym (negated k w.operation w (formula_at s) h))

  pub until_returns : w.operation ≡ until_of (other k) → false ≡ is_of k (formula_at s t)
  until_returns h = rw (step node) (sym (never k w.operation w (formula_at s) h))

  module _
      (more : 2 < w.operation)
      (not-other : w.operation ≡ until_of (other k) → ⊥)
      {q : Bool}
      (left : q ≡ is_of k (formula_at s w.a)) where
    by_left : {b : Bool} → q ≡ b → is_of k (formula_at s t) ≡ (b && is_of k (formula_at s w.b))
    by_left h =
        ap (is_of k) (step node) ∙
        both k w.operation w (formula_at s) more (known node) not-other ∙
        ap (λ x. x && is_of k (formula_at s w.b)) (sym left ∙ h)

    pub right_returns : {r : Bool} → q ≡ true → r ≡ is_of k (formula_at s w.b) → r ≡ is_of k (formula_at s t)
    right_returns h e = e ∙ sym (by_left h)

    pub left_returns : q ≡ false → false ≡ is_of k (formula_at s t)
    left_returns h = sym (by_left h)
