-- The sets: that of 0 is empty, and a power of 2 puts one number in.
use mathlib.Core.Path.{◌≡◌, ap}
use mathlib.Core.Logic.{by_cases}
use mathlib.Core.Bool.{false, ◌||◌}
use Prim.Native.Nat.{ℕ, ◌/◌, ◌%◌, ◌^◌}
use native.Mathlib.Omega.{arith}
use native.Mathlib.Decide.{ℕ_discrete}
use lib.Bits.{bit_or}
use lib.Dec.{eqb}
use borrow.Author.Tests.{eq-eqb, ne_eqb}
use Rattle.masks.specs.Member.{member}
use Rattle.masks.proofs.Bits.{Has, has_zero, or_bit, has_power}

pub member_none : (v : ℕ) → member 0 v ≡ false
unfolding member
member_none v = ne_eqb _ _ (has_zero v)

-- the power has bit v alone: there the bit is 1, and elsewhere it is the mask's
pub member_with : (mask v u : ℕ) → member (bit_or mask (2 ^ v)) u ≡ (eqb v u || member mask u)
unfolding member
member_with mask v u =
    let bit = or_bit mask (2 ^ v) u in
    by_cases (ℕ_discrete v u)
    (λ e.
    let set : Has (bit_or mask (2 ^ v)) u = omega (arith, bit, (has_power v u).1 e) in rw (eq-eqb v u e) (eq-eqb _ 1 set))
    (λ d.
    let no : ¬ Has (2 ^ v) u = λ h. d ((has_power v u).0 h) in
    let same : bit_or mask (2 ^ v) / 2 ^ u % 2 ≡ mask / 2 ^ u % 2 = omega (arith, bit) in
    rw (ne_eqb v u d) (ap (λ x. eqb x 1) same))
