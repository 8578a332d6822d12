-- What is written and printed follows from the answer of the call that reads the text.
use mathlib.Core.Path.{ap}
use native.Mathlib.Omega.{arith}
use lib.ListN.{length}
use Rattle.typed_call.proofs.Enough.{typed_size}
use Rattle.typed_call.proofs.Told.{near}
use Rattle.typed_call.proofs.answer.Goals as goal

pub refuse_text-printed-requires : goal.refuse_text-printed-requires
refuse_text-printed-requires c =
    let size = ap length c.trimmed-text.ensures in
    let place = near _ _ c.trimmed-text.ensures c.requires.0 c.read_rule-read.ensures in
    omega (arith, c.requires.1, size, (typed_size c.args.input.now).1, place)
