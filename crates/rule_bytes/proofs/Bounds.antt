-- The kind and c of a bound, once for all signs.
use mathlib.Core.Path.{◌≡◌, refl}
use Prim.Native.Nat.{ℕ, ◌≤◌}
use native.Mathlib.Omega.{arith}
use Rattle.rule.specs.Formula.{bound_of}
use Rattle.rule_grammar.specs.Machine.{Sign, less, more, equal, bound}
use Rattle.rule_bytes.specs.RuleBytes.{kind_of, limit_of}

pub bound_limit : (s : Sign) (c : ℕ) → limit_of (bound s c) ≡ c
bound_limit less c = refl
bound_limit more c = refl
bound_limit equal c = refl

-- they stand for the bound
pub bound_kind : (s : Sign) (c : ℕ) → bound_of (kind_of (bound s c)) c ≡ bound s c
bound_kind less c = refl
bound_kind more c = refl
bound_kind equal c = refl

-- whatever c is, the kind is the sign's
pub kind_same : (s : Sign) (c : ℕ) → kind_of (bound s 0) ≡ kind_of (bound s c)
kind_same less c = refl
kind_same more c = refl
kind_same equal c = refl

pub kind_few : (s : Sign) (c : ℕ) → kind_of (bound s c) ≤ 3
kind_few less c = omega arith
kind_few more c = omega arith
kind_few equal c = omega arith
