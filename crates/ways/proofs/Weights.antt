-- What arrows weigh, by the words that are read.
use mathlib.Core.Path.{◌≡◌, refl, ap, ◌∙◌}
use mathlib.Core.Bool.{Bool, true, false, cond}
use mathlib.Core.Bool.{not as neg}
use Prim.Native.Nat.{ℕ, zero, suc, ◌+◌, ◌*◌, min}
use native.Mathlib.Omega.{arith}
use mir.Val.{bool_byte}
use lib.Dec.{eqb}
use borrow.Author.Tests.{eqb-true, ne_eqb}
use Rattle.tctl.specs.Chart.{up_to, no_end}
use Rattle.model.specs.Engine.{offer}
use Rattle.model.specs.Decide.{tick}
use Rattle.chart.specs.Bytes.{is_no_end}
use Rattle.chart.specs.Shape.{InRange}
use Rattle.ways.specs.Way.{Weighs, Increased}

-- a tick, or no time
pub ticks_weigh : (most : ℕ) {r : ℕ} → r ≡ bool_byte (neg (eqb most 0)) → Weighs true most r
ticks_weigh zero e = record { low = omega (arith, e); is = λ there cap i l. omega (arith, e) }
ticks_weigh (suc k) {r} e =
    record { low = omega (arith, one); is = λ there c i l. turn there c (is_no_end (suc k)) }
  where
    one : r ≡ 1
    one = e ∙ ap (λ b. bool_byte (neg b)) (ne_eqb (suc k) 0 (λ z. absurd (let y : ⊥ = omega (arith, z) in y)))

    turn :
        (there c : ℕ) (b : Bool) → min c (there + r) ≡ offer c (tick (cond b no_end (up_to (suc k)))) there
    turn there c true = omega (arith, one)
    turn there c false = omega (arith, one)

-- the most minutes, and one more than they can be where there is no end
pub minutes_weigh :
    (most : ℕ) → InRange most → {b : Bool} → b ≡ is_no_end most → {r : ℕ} → r ≡ most + bool_byte b → Weighs false most r
minutes_weigh most range {b} f {r} e = turn (is_no_end most) refl
  where
    turn : (c : Bool) → is_no_end most ≡ c → Weighs false most r
    turn true g = record { low = omega (arith, is); is = λ there cap i l. rw g (omega (arith, is)) }
      where
        is : r ≡ 65536
        is = e ∙ ap (λ b. most + bool_byte b) (f ∙ g) ∙ omega (arith, eqb-true most 65535 g)
    turn false g = record { low = omega (arith, is, range g); is = λ there cap i l. rw g (omega (arith, is)) }
      where
        is : r ≡ most
        is = e ∙ ap (λ b. most + bool_byte b) (f ∙ g) ∙ omega arith

-- The lesser of the sum and of a product that is 0 just from 0, and else above what is asked for.
pub increases :
    (ticks : Bool) (most there w : ℕ) → Weighs ticks most w → {r : ℕ} → r ≡ min (there + w) (there * 131072) → Increased ticks most there r
increases ticks most zero w weighed e = record { low = omega (arith, e); is = λ cap h. omega (arith, e) }
increases ticks most (suc k) w weighed {r} e =
    record {
      low = omega (arith, sum, weighed.low);
      is = λ cap h. ap (min cap) sum ∙ weighed.is (suc k) cap (omega arith) h;
    }
  where
    sum : r ≡ suc k + w
    sum = omega (arith, e, weighed.low)
