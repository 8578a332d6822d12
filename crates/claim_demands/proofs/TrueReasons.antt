-- A shown run is a true reason.
use Rattle.shown.proofs.Begins.{begun, some_met, all_unmet}
use Rattle.shown.proofs.Meaning.{reason_iff}
use Rattle.claim_demands.specs.TrueReasons.{TrueReasons}

pub true_reasons : TrueReasons
true_reasons =
    record {
      begun = λ G acc s last shown low w. begun acc low w;
      some_met = λ G P Q b s shown w. some_met w;
      all_unmet = λ G P Q c s shown w. all_unmet w;
      exists = λ G acc f s low. reason_iff acc f low;
    }
