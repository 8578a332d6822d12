-- Stored numbers keep their order, and a sum with an arrow's weight stands for what the arrow makes of the number.
use mathlib.Core.Path.{◌≡◌, refl, sym, ap, ◌∙◌}
use mathlib.Core.Logic.{◌↔◌, by_cases}
use Prim.Native.Nat.{ℕ, zero, suc, ◌+◌, ◌≤◌, ◌<◌, min}
use native.Mathlib.Omega.{arith}
use native.Mathlib.Decide.{dec_le, ℕ_discrete}
use lib.Dec.{eqb}
use borrow.Author.Tests.{le-leb, lt-leb, eq-eqb, ne_eqb}
use Rattle.tctl.specs.Chart.{Arrow, Most, up_to, no_end}
use Rattle.model.specs.Engine.{gain}
use Rattle.step_numbers.specs.declared.Measure.{Measure}
use Rattle.step_numbers.specs.declared.Measure.TheVariants.{Least, Greatest}
use Rattle.step_numbers.specs.Target.{highest, worth_of, Capped, least, greatest}
use Rattle.step_numbers.specs.Stored.{live, raised_of, stored_of, heft, weight_of, capped_of, settled_of}

-- ── Greatest minutes ──

pub raised_some : (v : ℕ) → 1 ≤ v → raised_of v ≡ live + v
raised_some zero l = absurd (let z : ⊥ = omega arith in z)
raised_some (suc v) l = refl

raised_mono : (v w : ℕ) → v ≤ w → raised_of v ≤ raised_of w
raised_mono zero w l = omega arith
raised_mono (suc v) w l = omega (arith, raised_some w (omega arith))

raised_injective : (v w : ℕ) → raised_of v ≡ raised_of w → v ≡ w
raised_injective zero zero e = refl
raised_injective zero (suc w) e = omega arith
raised_injective (suc v) zero e = omega arith
raised_injective (suc v) (suc w) e = omega arith

pub capped_none : (cap v : ℕ) → v ≤ live → capped_of cap v ≡ 0
capped_none cap v l = rw (le-leb v live l)

pub capped_some : (cap v : ℕ) → live < v → capped_of cap v ≡ min (live + cap) v
capped_some cap v l = rw (lt-leb v live l)

capped_mono : (cap v w : ℕ) → v ≤ w → capped_of cap v ≤ capped_of cap w
capped_mono cap v w l =
    by_cases (dec_le v live) (λ h. omega (arith, capped_none cap v h))
    (λ h. omega (arith, capped_some cap v (omega arith), capped_some cap w (omega arith)))

-- From 0 the sum is the heft alone, which is not above `live`. From 1 at least it is above `live` by the number and the
-- heft, and is cut at the cap: what is above `live` is the offer. No end weighs no less than any cap.
capped_sum :
    {cap : ℕ} → 1 ≤ cap → cap ≤ highest → (most : Most) → heft most ≤ 65537 → (v : ℕ) →
    capped_of cap (raised_of v + heft most) ≡ raised_of (gain cap most v)
capped_sum {cap} s c most h zero = capped_none cap (0 + heft most) (omega arith)
capped_sum {cap} s c (up_to m) h (suc v) =
    capped_some cap (live + suc v + m) (omega arith) ∙ omega (arith, raised_some (min cap (suc v + m)) (omega arith))
capped_sum {cap} s c no_end h (suc v) =
    capped_some cap (live + suc v + 65537) (omega arith) ∙ omega (arith, raised_some cap s)

-- ── Every measure ──

pub stored_zero : (measure : Measure) → stored_of measure 0 ≡ 0
stored_zero Least = refl
stored_zero (Greatest cap) = refl

pub stored_mono : (measure : Measure) (v w : ℕ) → v ≤ w → stored_of measure v ≤ stored_of measure w
stored_mono Least v w l = l
stored_mono (Greatest cap) v w l = raised_mono v w l

pub stored_injective : (measure : Measure) (v w : ℕ) → stored_of measure v ≡ stored_of measure w → v ≡ w
stored_injective Least v w e = e
stored_injective (Greatest cap) v w e = raised_injective v w e

-- so two of them are the same just if the numbers are
pub stored_eqb : (measure : Measure) (v w : ℕ) → eqb (stored_of measure v) (stored_of measure w) ≡ eqb v w
stored_eqb measure v w =
    by_cases (ℕ_discrete v w) (λ e. eq-eqb _ _ (ap (stored_of measure) e) ∙ sym (eq-eqb v w e))
    (λ d. ne_eqb _ _ (λ e. d (stored_injective measure v w e)) ∙ sym (ne_eqb v w d))

pub stored_le_iff :
    (measure : Measure) (need v : ℕ) → 1 ≤ need → (stored_of measure need ≤ stored_of measure v) ↔ (need ≤ v)
stored_le_iff measure need v l = (turn measure v, stored_mono measure need v)
  where
    turn : (measure : Measure) (v : ℕ) → stored_of measure need ≤ stored_of measure v → need ≤ v
    turn Least v h = h
    turn (Greatest cap) zero h = omega (arith, raised_some need l)
    turn (Greatest cap) (suc v) h = omega (arith, raised_some need l)

pub stored_high : (measure : Measure) (v : ℕ) → v ≤ highest → stored_of measure v ≤ live + highest
stored_high Least v l = omega arith
stored_high (Greatest cap) zero l = omega arith
stored_high (Greatest cap) (suc v) l = omega arith

pub settled_zero : (measure : Measure) → settled_of measure 0 ≡ 0
settled_zero Least = refl
settled_zero (Greatest cap) = refl

pub settled_mono : (measure : Measure) (v w : ℕ) → v ≤ w → settled_of measure v ≤ settled_of measure w
settled_mono Least v w l = omega arith
settled_mono (Greatest cap) v w l = capped_mono cap v w l

-- of least minutes the sum is 65,535 more than the number without the fewest, and these are taken off again
pub settled_sum :
    {measure : Measure} → Capped measure → (a : Arrow) → a.fewest ≤ 65535 → heft a.most ≤ 65537 → (v : ℕ) →
    v ≤ highest → settled_of measure (stored_of measure v + weight_of measure a) ≡ stored_of measure (worth_of measure a v)
settled_sum least a f h v l = omega arith
settled_sum (greatest s c) a f h v l = capped_sum s c a.most h v
