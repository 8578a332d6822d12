-- What a number becomes: the ceiling has a side, and a number below it has none.
use mathlib.Core.Path.{◌≡◌, sym, ap, ◌∙◌}
use mathlib.Core.Bool.{Bool, true, false, cond}
use mathlib.Core.Bool.{not as neg}
use Prim.Native.Nat.{ℕ, ◌+◌, ◌≤◌, ◌<◌, min}
use native.Mathlib.Omega.{arith}
use borrow.Author.Tests.{lt-ltb, le-ltb}
use Rattle.hints.specs.Values.{radix, value_of, tested_of}
use Rattle.ways.specs.declared.Way.{Way}
use Rattle.ways.specs.declared.Way.TheVariants.{Lower, Raise}
use Rattle.ways.specs.Way.{top, Fits, ceiling_of, leaps_of, reached_of, beside, Reached}

-- a value with or without a side, up to the top
pub beside_value : (b : Bool) {u : ℕ} (x : ℕ) → tested_of x ≡ beside u b → u ≤ top → value_of x ≡ u
beside_value true x e l = omega (arith, e)
beside_value false x e l = omega (arith, e)

pub low_ceiling : (way : Way) → Fits way → ceiling_of way ≤ top
unfolding ceiling_of
low_ceiling Lower f = omega arith
low_ceiling (Raise climb) f = omega (arith, f)

module _ (way : Way) (fits : Fits way) (v : ℕ) where
  abbrev u : ℕ
  u = reached_of way (min (ceiling_of way) v)

  abbrev by_leap : Bool → ℕ
  by_leap b = cond b (ceiling_of way) (min (ceiling_of way) v)

  full : u ≡ ceiling_of way → {r : ℕ} → r ≡ ceiling_of way + radix → Reached way v r
  full e {r} f =
      record {
        is = f ∙ sym (ap (λ b. beside u (neg b)) (le-ltb u (ceiling_of way) (omega (arith, e))) ∙ ap (λ v. v + radix) e);
        low = omega (arith, f, low_ceiling way fits);
      }

  pub reach_leap : {b : Bool} → b ≡ leaps_of way → b ≡ true → {r : ℕ} → r ≡ ceiling_of way + radix → Reached way v r
  reach_leap e t = full (ap by_leap (sym e ∙ t))

  pub reach_full :
      {b : Bool} → b ≡ leaps_of way → b ≡ false → ceiling_of way ≤ v → {r : ℕ} → r ≡ ceiling_of way + radix → Reached way v r
  reach_full e t l = full (ap by_leap (sym e ∙ t) ∙ omega arith)

  pub reach_part : {b : Bool} → b ≡ leaps_of way → b ≡ false → v < ceiling_of way → Reached way v v
  reach_part e t l =
      record {
        is = sym (ap (λ b. beside u (neg b)) (lt-ltb u (ceiling_of way) (omega (arith, same))) ∙ omega (arith, same));
        low = omega (arith, low_ceiling way fits);
      }
    where
      same : u ≡ v
      same = ap by_leap (sym e ∙ t) ∙ omega arith
