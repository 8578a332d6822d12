-- Bits: of two words together, of a power of 2, and of a shift.
use mathlib.Core.Path.{◌≡◌, ap, ap₂, ◌∙◌}
use mathlib.Core.Logic.{◌↔◌}
use Prim.Native.Nat.{ℕ, zero, suc, ◌*◌, ◌/◌, ◌%◌, ◌^◌, ◌<◌, max}
use native.Mathlib.Nat.{one-mul, mod-eq_of_lt, zero-div, div-eq_of_lt, pow-suc, mul-div-mul_right}
use native.Mathlib.Omega.{arith}
use lib.Pow.{pow-lt}
use lib.Bits.{bit_or, or_shr, or_step}

-- the word w has bit j
abbrev pub Has : ℕ → ℕ → Type 0
Has w j = w / 2 ^ j % 2 ≡ 1

pub has_zero : (j : ℕ) → Has 0 j → ⊥
has_zero j h = omega (arith, zero-div (2 ^ j))

-- a bit of two words together is the greater of their bits
pub or_bit : (a b j : ℕ) → bit_or a b / 2 ^ j % 2 ≡ max (a / 2 ^ j % 2) (b / 2 ^ j % 2)
or_bit a b j = omega (arith, or_shr a b j, or_step (a / 2 ^ j) (b / 2 ^ j))

-- By induction on both: 1 has bit 0 alone, twice a power has no bit 0, and its bits from 1 on are those of the power.
pub has_power : (i j : ℕ) → Has (2 ^ i) j ↔ (i ≡ j)
has_power zero zero = omega arith
has_power zero (suc j) = omega (arith, div-eq_of_lt (pow-lt {i = 0} {j = suc j} (omega arith)))
has_power (suc i) zero = omega (arith, pow-suc 2 i)
has_power (suc i) (suc j) =
    let e = ap₂ ◌/◌ (pow-suc 2 i) (pow-suc 2 j) ∙ mul-div-mul_right (2 ^ i) (2 ^ j) (omega arith) in
    let ih = has_power i j in
    (λ h. omega (arith, ih.0 (omega (arith, e))), λ f. omega (arith, e, ih.1 (omega arith)))

-- the bit that a shift makes in a word of so many bits
pub shift_bit : (bits j : ℕ) → j < bits → 1 * 2 ^ j % 2 ^ bits ≡ 2 ^ j
shift_bit bits j l = ap (λ x. x % 2 ^ bits) (one-mul (2 ^ j)) ∙ mod-eq_of_lt (pow-lt l)
