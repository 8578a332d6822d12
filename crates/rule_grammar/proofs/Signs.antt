-- What goes by the sign of a bound, once for all signs.
use mathlib.Core.Path.{◌≡◌, refl}
use mathlib.Core.Logic.{◌↔◌}
use mathlib.Core.List.{◌∷◌}
use Prim.Native.Nat.{ℕ, ◌≤◌}
use native.Mathlib.Omega.{arith}
use Rattle.decimal.specs.Decimal.{decimal}
use Rattle.tctl.specs.Formula.{Bound, at_most, at_least, exactly}
use Rattle.rule_grammar.specs.Text.{until_sign}
use Rattle.rule_grammar.specs.Grammar.{BoundInRange}
use Rattle.rule_grammar.specs.Machine.{Sign, less, more, equal, bound, sign_byte, most_of}

-- every bound has its sign and its c
pub bound_cases : (P : Bound → Type 0) → ((s : Sign) (c : ℕ) → P (bound s c)) → (b : Bound) → P b
bound_cases P h (at_most c) = h less c
bound_cases P h (at_least c) = h more c
bound_cases P h (exactly c) = h equal c

-- the machine's limit is the grammar's
pub range_iff : (s : Sign) (c : ℕ) → BoundInRange (bound s c) ↔ c ≤ most_of s
range_iff less c = (λ h. h, λ h. h)
range_iff more c = (λ h. h, λ h. h)
range_iff equal c = (λ h. h, λ h. h)

-- c may have any one digit, and two bytes are enough for it
pub most_range : (s : Sign) → (9 ≤ most_of s) × (most_of s ≤ 65535)
most_range less = (omega arith, omega arith)
most_range more = (omega arith, omega arith)
most_range equal = (omega arith, omega arith)

pub until_sign_lem : (s : Sign) (c : ℕ) → until_sign (bound s c) ≡ 85 ∷ sign_byte s ∷ 61 ∷ decimal c
until_sign_lem less c = refl
until_sign_lem more c = refl
until_sign_lem equal c = refl
