-- An accepted chart or rule has the length of its counts, which are bounded.
use native.Mathlib.Omega.{arith}
use Rattle.chart.proofs.WellFormed.{well_formed}
use Rattle.rule.proofs.Accepted.{accepted}
use Rattle.desk_call.specs.Files.{OneMore}

pub one_more : OneMore
one_more =
    record {
      chart = λ s e.
          let k = (well_formed s e).shape in
          omega (arith, k.whole, k.few_states, k.few_arrows);
      rule = λ s e.
          let k = (accepted s e).shape in
          omega (arith, k.whole, k.few_nodes);
    }
