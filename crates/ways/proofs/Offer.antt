-- What is offered: no less from a higher number, and no more than is reached.
use mathlib.Core.Path.{◌≡◌, refl, sym, ◌∙◌}
use mathlib.Core.Logic.{by_cases}
use mathlib.Core.Bool.{Bool}
use Prim.Native.Nat.{ℕ, zero, suc, ◌+◌, ◌-◌, ◌≤◌}
use native.Mathlib.Omega.{arith}
use native.Mathlib.Decide.{dec_le}
use lib.Dec.{ltb}
use borrow.Author.Tests.{lt-ltb, le-ltb}
use Rattle.base.proofs.Truth.{cond_elim}
use Rattle.tctl.specs.Chart.{Arrow, Most}
use Rattle.model.specs.Engine.{gain}
use Rattle.model.specs.Weighed.{weight}
use Rattle.model.proofs.Raise.{offer_le, offer_mono}
use Rattle.chart.specs.declared.ArrowWords.{ArrowWords}
use Rattle.ways.specs.declared.Climb.{Climb}
use Rattle.ways.specs.declared.Way.{Way}
use Rattle.ways.specs.declared.Way.TheVariants.{Lower, Raise}
use Rattle.ways.specs.Way.{ceiling_of, leaps_of, offer_of, reached_of, Increased, Offers, Beats}

gain_mono : (cap : ℕ) (most : Most) (v w : ℕ) → v ≤ w → gain cap most v ≤ gain cap most w
gain_mono cap most zero w l = omega arith
gain_mono cap most (suc v) zero l = absurd (let z : ⊥ = omega arith in z)
gain_mono cap most (suc v) (suc w) l = offer_mono cap most (suc v) (suc w) l

pub offers_more : (way : Way) (a : Arrow) (v w : ℕ) → v ≤ w → offer_of way a v ≤ offer_of way a w
unfolding offer_of
offers_more Lower a v w l = omega arith
offers_more (Raise climb) a v w l = gain_mono climb.cap (weight climb.ticks a.most) v w l

pub reaches : (way : Way) (a : Arrow) (v : ℕ) → offer_of way a v ≤ reached_of way (offer_of way a v)
unfolding offer_of leaps_of ceiling_of
reaches Lower a v = omega arith
reaches (Raise climb) a v =
    cond_elim (λ u. gains v ≤ u) climb.leap (λ e. low v) (λ e. omega arith)
  where
    gains : ℕ → ℕ
    gains v = gain climb.cap (weight climb.ticks a.most) v

    low : (v : ℕ) → gains v ≤ climb.cap
    low zero = omega arith
    low (suc v) = offer_le climb.cap (weight climb.ticks a.most) (suc v)

-- ── By the words that are read ──

pub lower_offers : (w : ArrowWords) (there : ℕ) {r : ℕ} → r ≡ there - w.fewest → Offers Lower w there r
unfolding ceiling_of offer_of
lower_offers w there e = record { low = omega (arith, e); is = λ f l. omega (arith, e) }

pub raise_offers : (climb : Climb) (w : ArrowWords) (there : ℕ) {r : ℕ} → Increased climb.ticks w.most there r → Offers (Raise climb) w there r
unfolding ceiling_of offer_of
raise_offers climb w there i = record { low = i.low; is = λ f l. i.is climb.cap f }

-- a sum is above what is left just if the other part is
sum_ltb : (t f y : ℕ) → ltb (t + f) y ≡ ltb t (y - f)
sum_ltb t f y =
    by_cases (dec_le (suc (t + f)) y) (λ l. lt-ltb (t + f) y (omega arith) ∙ sym (lt-ltb t (y - f) (omega arith)))
    (λ l. le-ltb (t + f) y (omega arith) ∙ sym (le-ltb t (y - f) (omega arith)))

pub lower_beats : (w : ArrowWords) (there t : ℕ) {r : Bool} → r ≡ ltb (t + w.fewest) there → Beats Lower w there t r
lower_beats w there t e =
    record { offer = there - w.fewest; offers = lower_offers w there refl; is = e ∙ sum_ltb t w.fewest there }
