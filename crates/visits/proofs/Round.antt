-- A number that goes to the cap, round a loop in which time passes.
use mathlib.Core.Path.{◌≡◌, sym, ap, ◌∙◌}
use mathlib.Core.Bool.{Bool, true, ◌&&◌}
use mathlib.Core.Bool.{not as neg}
use mathlib.Core.List.{List}
use Prim.Native.Nat.{ℕ, ◌+◌, ◌≤◌, ◌<◌}
use native.Mathlib.Omega.{arith}
use lib.ListN.{length, set}
use lib.Dec.{ltb}
use borrow.Author.Tests.{le-ltb}
use Rattle.model.specs.Engine.{num}
use Rattle.chart.specs.Bytes.{chart_of}
use Rattle.hints.specs.Circle.{Circled}
use Rattle.hints.specs.Values.{radix, tested_of, values, Open}
use Rattle.hints.proofs.Values.{values_length}
use Rattle.ways.specs.declared.Climb.{Climb}
use Rattle.ways.specs.declared.Way.TheVariants.{Raise}
use Rattle.ways.specs.Way.{highest, ceiling_of, beside}
use Rattle.visits.specs.Moves.{Ready, none, leap, Went}
use Rattle.visits.proofs.Tested.{tested_open}
use Rattle.visits.proofs.Went.{went_set}

pub leap_moves :
    (climb : Climb) → climb.cap ≤ highest → (chart ns : List ℕ) (m : ℕ) {r : ℕ} → r < length ns →
    ¬ (tested_of (num ns r) ≡ 0) → tested_of (num ns r) < radix → (x : ℕ) → tested_of x ≡ climb.cap + radix →
    ((go : ℕ → Bool) → Open go ns → Circled (chart_of chart) go r) → (go : ℕ → Bool) → Ready (Raise climb) go ns →
    Went (Raise climb) chart m go true ns (set ns r x)
unfolding ceiling_of
leap_moves climb low chart ns m {r} l some below x tested on go ready =
    went_set ready r x climb.cap l (omega (arith, tested, low)) side (omega (arith, low)) known.1 (omega arith)
    (leap none r (omega (arith, values_length ns)) (omega (arith, known.2)) known.1
    (on go (λ s h i. (tested_open ready s h i).0)))
  where
    known : (go r ≡ true) × (num (values ns) r < climb.cap) × (tested_of (num ns r) ≡ num (values ns) r)
    known = tested_open ready r l below

    side : tested_of x ≡ beside climb.cap (neg (go r && ltb climb.cap climb.cap))
    side =
        tested ∙
        sym (ap (λ b. beside climb.cap (neg (b && ltb climb.cap climb.cap))) known.0 ∙
        ap (λ c. beside climb.cap (neg (true && c))) (le-ltb climb.cap climb.cap (omega arith)))
