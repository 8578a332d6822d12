-- A choice of two numbers, and a value placed by its side.
use mathlib.Core.Path.{◌≡◌, sym, ap, subst, ◌∙◌}
use mathlib.Core.Bool.{Bool, cond}
use Prim.Native.Nat.{ℕ, ◌≤◌}
use Rattle.base.proofs.Truth.{cond_elim}
use Rattle.initial.specs.Initial.{Chosen, Placed, placed_of}

-- a choice of two is up to what both are up to
pub cond_le : (b : Bool) {x y limit : ℕ} → x ≤ limit → y ≤ limit → cond b x y ≤ limit
cond_le b {limit = limit} h k = cond_elim (λ x. x ≤ limit) b (λ e. h) (λ e. k)

pub either_le : {b : Bool} {x y r limit : ℕ} → Chosen b x y r → x ≤ limit → y ≤ limit → r ≤ limit
either_le {b} {limit = limit} c h k = subst (λ r. r ≤ limit) (sym c.is) (cond_le b h k)

-- a value is placed as what it is
pub placed_as : {r v u limit : ℕ} {go : Bool} → Placed v go limit r → v ≡ u → Placed u go limit r
placed_as {limit = limit} {go} p e = record { is = p.is ∙ ap (λ v. placed_of v go limit) e; low = p.low }
