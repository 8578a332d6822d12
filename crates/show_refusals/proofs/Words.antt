-- What a node's words and its mark say of what can be shown is what its formula and the decision say.
use mathlib.Core.Path.{◌≡◌, refl}
use mathlib.Core.Logic.{◌⊎◌, inl, inr}
use mathlib.Core.Bool.{Bool, true, false, cond, false≢true}
use mathlib.Core.Bool.{not as neg}
use mathlib.Core.List.{List}
use Prim.Native.Nat.{ℕ, zero, suc, ◌≤◌}
use native.Mathlib.Omega.{arith}
use lib.Dec.{eqb}
use borrow.Author.Tests.{eqb-true}
use Rattle.tctl.specs.Chart.{Chart}
use Rattle.tctl.specs.Formula.{Formula, at_most, at_least, exactly, all_until}
use Rattle.model.specs.Decide.{holds}
use Rattle.rule.specs.declared.NodeWords.{NodeWords}
use Rattle.rule.specs.Formula.{operation, formula_at}
use Rattle.rule.proofs.Read.{ReadNode, step, known}
use Rattle.shown.specs.Showable.{showable}
use Rattle.show_refusals.specs.Rows.{is_shown_by}

module _ (G : Chart) (s : ℕ) (kind a b c : ℕ) (at : ℕ → Formula) where
  abbrev words : ℕ → NodeWords
  words op = record { operation = op; kind = kind; a = a; b = b; c = c }

  abbrev formula : ℕ → Formula
  formula op = operation op (words op) at

  -- an A-until, by the kind of its bound
  by_kind :
      (most least : Bool) →
      let f = all_until (cond most (at_most c) (cond least (at_least c) (exactly c))) (at a) (at b) in
      cond most (neg (holds G f s)) false ≡ showable G f s
  by_kind true least = refl
  by_kind false true = refl
  by_kind false false = refl

  -- operation by operation
  by_operation : (op : ℕ) → op ≤ 6 → is_shown_by (words op) (holds G (formula op) s) ≡ showable G (formula op) s
  by_operation zero l = refl
  by_operation (suc zero) l = refl
  by_operation (suc (suc zero)) l = refl
  by_operation (suc (suc (suc zero))) l = refl
  by_operation (suc (suc (suc (suc zero)))) l = refl
  by_operation (suc (suc (suc (suc (suc zero))))) l = refl
  by_operation (suc (suc (suc (suc (suc (suc zero)))))) l = by_kind (eqb kind 1) (eqb kind 2)
  by_operation (suc (suc (suc (suc (suc (suc (suc op))))))) l = absurd (let z : ⊥ = omega arith in z)

module _ (G : Chart) {rule : List ℕ} {t : ℕ} {w : NodeWords} (node : ReadNode rule t w) (s : ℕ) where
  pub shown_by : is_shown_by w (holds G (formula_at rule t) s) ≡ showable G (formula_at rule t) s
  shown_by =
      rw (step node) (by_operation G s w.kind w.a w.b w.c (formula_at rule) w.operation (known node))

-- what can be shown is an E-until, or an A-until bounded by "at most"
pub shown_cases :
    (w : NodeWords) (marked : Bool) → is_shown_by w marked ≡ true → (w.operation ≡ 5) ⊎ ((w.operation ≡ 6) × (w.kind ≡ 1))
shown_cases w marked = turn (eqb w.operation 5) refl (eqb w.operation 6) refl (eqb w.kind 1) refl
  where
    turn :
        (some : Bool) → eqb w.operation 5 ≡ some → (all : Bool) → eqb w.operation 6 ≡ all →
        (most : Bool) → eqb w.kind 1 ≡ most → cond some marked (cond all (cond most (neg marked) false) false) ≡ true →
        (w.operation ≡ 5) ⊎ ((w.operation ≡ 6) × (w.kind ≡ 1))
    turn true e all f most g h = inl (eqb-true w.operation 5 e)
    turn false e true f true g h = inr (eqb-true w.operation 6 f, eqb-true w.kind 1 g)
    turn false e true f false g h = absurd (false≢true h)
    turn false e false f most g h = absurd (false≢true h)
