-- The text was written into a buffer that has room for it.
use native.Mathlib.Omega.{arith}
use Rattle.refusal_words.proofs.Sizes.{counts_short}
use Rattle.refusal_words.proofs.Filled.{zeros_room}
use Rattle.telling.proofs.counts_size.Goals as goal

-- The text was written into a buffer that has room for it.
pub put_text-requires : goal.put_text-requires
put_text-requires c = (omega arith, zeros_room 16 (counts_short _))
