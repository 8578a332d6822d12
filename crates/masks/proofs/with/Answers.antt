-- The shift is a power of 2.
use mathlib.Core.Path.{ap, ◌∙◌}
use lib.Bits.{bit_or}
use Rattle.masks.specs.Member.{member}
use Rattle.masks.proofs.Bits.{shift_bit}
use Rattle.masks.proofs.Member.{member_with}
use Rattle.masks.proofs.with.Goals as goal

-- The shift is a power of 2.
pub returns : goal.returns
returns c =
    let a = c.args in
    let bit = shift_bit 64 a.v c.requires in
    record { tells = λ u. ap (λ w. member (bit_or a.mask w) u) bit ∙ member_with a.mask a.v u }
