-- The two ways of numbers. On either one they rise: minutes that fall are kept as what they leave to the top.
use Rattle.std.specs.Prelude.{◌≡◌, Bool, false, cond, ◌&&◌, not as neg, List, map, ℕ, ◌+◌, ◌-◌, ◌≤◌, ◌<◌, min, ltb}
use Rattle.tctl.specs.Chart.{Arrow}
use Rattle.model.specs.Engine.{offer, gain}
use Rattle.model.specs.Weighed.{weight}
use Rattle.chart.specs.declared.ArrowWords.{ArrowWords}
use Rattle.chart.specs.Bytes.{most_of, arrow_of}
use Rattle.hints.specs.Values.{radix, sided}
use Rattle.ways.specs.declared.Way.{Way}
use Rattle.ways.specs.declared.Way.TheVariants.{Lower, Raise}

-- the highest number that is asked for: 2 above the highest c
abbrev pub highest : ℕ
highest = 65537

-- what minutes that fall are taken from
abbrev pub top : ℕ
top = 131072

-- the minutes that numbers leave to the top
abbrev pub left_over : List ℕ → List ℕ
left_over vs = map (λ v. top - v) vs

-- no number rises above it
unfoldable pub ceiling_of : Way → ℕ
ceiling_of Lower = top
ceiling_of (Raise climb) = climb.cap

-- a cap up to the highest number that is asked for
abbrev pub Fits : Way → Type 0
Fits Lower = Unit {0}
Fits (Raise climb) = climb.cap ≤ highest

-- a number that rises goes to the cap at once
unfoldable pub leaps_of : Way → Bool
leaps_of Lower = false
leaps_of (Raise climb) = climb.leap

-- what an arrow offers its start, from its end's number
unfoldable pub offer_of : Way → Arrow → ℕ → ℕ
offer_of Lower a v = v - a.fewest
offer_of (Raise climb) a v = gain climb.cap (weight climb.ticks a.most) v

-- what a number becomes by an offer
abbrev pub reached_of : Way → ℕ → ℕ
reached_of way v = cond (leaps_of way) (ceiling_of way) v

-- a number has a side where its state is not gone through, or is at the ceiling
abbrev pub side_of : Way → (ℕ → Bool) → ℕ → ℕ → Bool
side_of way go s v = neg (go s && ltb v (ceiling_of way))

-- the value v with the side b
abbrev pub beside : ℕ → Bool → ℕ
beside v b = v + cond b radix 0

-- r is what an arrow with the word most weighs, or more where that is above every cap
pub record Weighs (ticks : Bool) (most r : ℕ) : Type 0 where
  pub low : r ≤ 65536
  pub is :
      (there cap : ℕ) → 1 ≤ there → cap ≤ highest → min cap (there + r) ≡ offer cap (weight ticks (most_of most)) there

-- r is what a number comes to by the word most, or more where that is the cap
pub record Increased (ticks : Bool) (most there r : ℕ) : Type 0 where
  pub low : r ≤ there + 65536
  pub is : (cap : ℕ) → cap ≤ highest → min cap r ≡ gain cap (weight ticks (most_of most)) there

-- r is what an arrow with the words w offers from there, or more where that is the ceiling
pub record Offers (way : Way) (w : ArrowWords) (there r : ℕ) : Type 0 where
  pub low : r ≤ there + 65536
  pub is : Fits way → there ≤ top → min (ceiling_of way) r ≡ offer_of way (arrow_of w) there

-- r is whether that is above t
pub record Beats (way : Way) (w : ArrowWords) (there t : ℕ) (r : Bool) : Type 0 where
  pub offer : ℕ
  pub offers : Offers way w there offer
  pub is : r ≡ ltb t offer

-- r is what a number becomes by the offer v, with its side
pub record Reached (way : Way) (v r : ℕ) : Type 0 where
  pub is : let u = reached_of way (min (ceiling_of way) v) in r ≡ beside u (neg (ltb u (ceiling_of way)))
  pub low : r < sided
