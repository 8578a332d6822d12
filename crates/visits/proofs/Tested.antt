-- What a comparison with a number and its side tells.
use mathlib.Core.Path.{◌≡◌, refl, ap, ◌∙◌}
use mathlib.Core.Bool.{Bool, true, false, ◌&&◌}
use mathlib.Core.Bool.{not as neg}
use mathlib.Core.List.{List}
use Prim.Native.Nat.{ℕ, zero, suc, ◌≤◌, ◌<◌, min}
use native.Mathlib.Omega.{arith}
use lib.ListN.{length}
use lib.Dec.{ltb}
use borrow.Author.Tests.{ltb-true, ltb-false}
use Rattle.tctl.specs.Chart.{Arrow}
use Rattle.model.specs.Engine.{num}
use Rattle.model.specs.Weighed.{weight}
use Rattle.model.proofs.Raise.{offer_le}
use Rattle.hints.specs.Values.{radix, tested_of, values}
use Rattle.hints.proofs.Values.{value_at}
use Rattle.ways.specs.declared.Way.{Way}
use Rattle.ways.specs.declared.Way.TheVariants.{Lower, Raise}
use Rattle.ways.specs.Way.{top, Fits, ceiling_of, offer_of, beside}
use Rattle.visits.specs.Moves.{Ready, Held}
use Rattle.ways.proofs.Reaching.{low_ceiling}

module _ {way : Way} {go : ℕ → Bool} {ns : List ℕ} (r : Ready way go ns) (s : ℕ) (l : s < length ns) where
  abbrev value : ℕ
  value = num (values ns) s

  tested : (b c : Bool) → go s ≡ b → ltb value (ceiling_of way) ≡ c → tested_of (num ns s) ≡ beside value (neg (b && c))
  tested b c f g =
      r.sides s l ∙ ap (λ v. beside v (neg (go s && ltb v (ceiling_of way)))) (value_at ns s) ∙
      ap (λ b. beside value (neg (b && ltb value (ceiling_of way)))) f ∙ ap (λ c. beside value (neg (b && c))) g

  -- a number below an offer, or without a side: its state is gone through, and it is below the ceiling
  pub tested_open :
      tested_of (num ns s) < radix → (go s ≡ true) × (value < ceiling_of way) × (tested_of (num ns s) ≡ value)
  tested_open h = turn (go s) (ltb value (ceiling_of way)) refl refl
    where
      turn :
          (b c : Bool) → go s ≡ b → ltb value (ceiling_of way) ≡ c →
          (go s ≡ true) × (value < ceiling_of way) × (tested_of (num ns s) ≡ value)
      turn false c f g = absurd (let z : ⊥ = omega (arith, tested false c f g) in z)
      turn true false f g = absurd (let z : ⊥ = omega (arith, tested true false f g) in z)
      turn true true f g = (f, ltb-true value (ceiling_of way) g, omega (arith, tested true true f g))

  -- a number that is not below v: its state is not gone through, or it has v up to the ceiling
  pub tested_held : (v : ℕ) → v ≤ tested_of (num ns s) → v < radix → go s ≡ true → min (ceiling_of way) v ≤ value
  tested_held v h i f = turn (ltb value (ceiling_of way)) refl
    where
      turn : (c : Bool) → ltb value (ceiling_of way) ≡ c → min (ceiling_of way) v ≤ value
      turn true g = omega (arith, tested true true f g)
      turn false g = omega (arith, ltb-false value (ceiling_of way) g)

-- what an arrow offers a start at the ceiling is no more
offer_low : (way : Way) → Fits way → (a : Arrow) (v : ℕ) → v ≤ top → offer_of way a v ≤ ceiling_of way
unfolding offer_of ceiling_of
offer_low Lower f a v l = omega arith
offer_low (Raise climb) f a zero l = omega arith
offer_low (Raise climb) f a (suc v) l = offer_le climb.cap (weight climb.ticks a.most) (suc v)

-- a start with a side has what its arrows offer, or is not gone through
pub sided_held :
    {way : Way} → Fits way → {go : ℕ → Bool} {ns : List ℕ} → Ready way go ns → (a : Arrow) → a.start < length ns →
    radix ≤ tested_of (num ns a.start) → Held way go a (values ns) (values ns)
sided_held {way} fits {ns = ns} r a l h =
    record {
      is = λ f.
          omega (
            arith,
            tested_held r a.start l top (omega arith) (omega arith) f,
            offer_low way fits a (num (values ns) a.end) (omega (arith, r.within a.end, value_at ns a.end)),
            low_ceiling way fits,
          );
    }
