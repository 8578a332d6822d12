-- Numbers that no arrow raises.
use mathlib.Core.Path.{◌≡◌}
use mathlib.Core.Bool.{Bool, true}
use mathlib.Core.List.{List}
use Prim.Native.Nat.{ℕ, ◌≤◌, ◌<◌}
use native.Mathlib.Omega.{arith}
use lib.ListN.{length}
use Rattle.model.specs.Engine.{num}
use Rattle.hints.specs.Values.{radix, tested_of}
use Rattle.hints.proofs.Values.{value_at}
use Rattle.ways.specs.declared.Way.{Way}
use Rattle.ways.specs.declared.Way.TheVariants.{Lower}
use Rattle.ways.specs.Way.{offer_of}
use Rattle.visits.proofs.Tested.{sided_held}
use Rattle.engine.specs.Rest.{AtRest}

pub sided_rest :
    {r : Bool} {way : Way} {ns : List ℕ} → ((s : ℕ) → s < length ns → radix ≤ tested_of (num ns s)) → AtRest r way ns
sided_rest all = record { held = λ e fits go ready a l h. sided_held fits ready a l (all a.start l) }

-- an arrow offers no more than its end has, and its start has as much
pub alike_rest :
    {r : Bool} {ns : List ℕ} → (r ≡ true → (s : ℕ) → s < length ns → tested_of (num ns s) ≡ tested_of (num ns 0)) →
    AtRest r Lower ns
unfolding offer_of
alike_rest {ns = ns} all =
    record {
      held = λ e fits go ready a l h.
          record {
            is = λ f.
                omega (
                  arith,
                  all e a.start l,
                  all e a.end h,
                  value_at ns a.start,
                  value_at ns a.end,
                );
          };
    }
