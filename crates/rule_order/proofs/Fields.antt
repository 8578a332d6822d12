-- The fields of a node that passes check 14, by its form: those that it does not use are 0, and its kind is that of its
-- bound.
use mathlib.Core.Path.{◌≡◌, refl}
use mathlib.Core.Bool.{Bool, true, false, not, ◌&&◌}
use Prim.Native.Nat.{ℕ, ◌≤◌, ◌<◌}
use native.Mathlib.Omega.{arith}
use lib.Dec.{eqb, ltb}
use borrow.Author.Tests.{lt-ltb, eqb-true, eqb-false, ne_eqb}
use Rattle.base.proofs.Truth.{cond_elim, and_false}
use Rattle.base.proofs.Compare.{not_differ_iff}
use Rattle.rule.specs.Form.{form_of}
use Rattle.rule.specs.Formula.{bound_of}
use Rattle.rule.specs.Refusals.{malformed, wrong_kind, wrong_a}
use Rattle.rule.specs.declared.NodeWords.{NodeWords}
use Rattle.rule.proofs.Accepted.{passes, bound_known}
use Rattle.rule_bytes.specs.RuleBytes.{kind_of, limit_of}

-- ── the bound of an until has its kind and its c ──

kind_bound : (kind c : ℕ) → 1 ≤ kind → kind ≤ 3 → kind ≡ kind_of (bound_of kind c)
kind_bound kind c h k =
    cond_elim (λ b. kind ≡ kind_of b) (eqb kind 1) (eqb-true kind 1) λ e.
    cond_elim (λ b. kind ≡ kind_of b) (eqb kind 2) (eqb-true kind 2) λ f.
    omega (arith, eqb-false kind 1 e, eqb-false kind 2 f)

pub limit_bound : (kind c : ℕ) → c ≡ limit_of (bound_of kind c)
limit_bound kind c =
    cond_elim (λ b. c ≡ limit_of b) (eqb kind 1) (λ _. refl) λ _.
    cond_elim (λ b. c ≡ limit_of b) (eqb kind 2) (λ _. refl) λ _. refl

-- ── by the form ──

-- a field that is 0 where it is not used
unused : (b : Bool) (x : ℕ) → (b && not (eqb x 0)) ≡ false → b ≡ true → x ≡ 0
unused b x e h = (not_differ_iff x 0).0 (and_false b _ e h)

module _ (w : NodeWords) (e : malformed w ≡ false) where
  abbrev form : ℕ
  form = form_of w.operation

  pub no_a : form ≡ 0 → w.a ≡ 0
  unfolding wrong_a
  no_a h = (not_differ_iff w.a 0).0 (rw h at (passes w e).a)

  pub no_b : form < 3 → w.b ≡ 0
  no_b h = unused (ltb form 3) w.b (passes w e).b (lt-ltb form 3 h)

  pub no_c : form < 4 → w.c ≡ 0
  no_c h = unused (ltb form 4) w.c (passes w e).c (lt-ltb form 4 h)

  pub no_kind : form < 4 → w.kind ≡ 0
  unfolding wrong_kind
  no_kind h = (not_differ_iff w.kind 0).0 (rw (ne_eqb form 4 (λ z. omega arith)) at (passes w e).kind)

  pub until_kind : form ≡ 4 → w.kind ≡ kind_of (bound_of w.kind w.c)
  until_kind h = let known = bound_known w e h in kind_bound w.kind w.c known.0 known.1
