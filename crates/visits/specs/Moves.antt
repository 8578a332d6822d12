-- What arrows and loops make of the numbers, and what functions promise of that.
use Rattle.std.specs.Prelude.{◌≡◌, Bool, true, false, List, ℕ, ◌-◌, ◌≤◌, ◌<◌, length, set}
use Rattle.base.specs.Sum.{total}
use Rattle.tctl.specs.Chart.{Arrow}
use Rattle.model.specs.Engine.{num}
use Rattle.chart.specs.Bytes.{arrow_words, arrow_of, chart_of}
use Rattle.hints.specs.Circle.{Circled}
use Rattle.hints.specs.Values.{value_of, tested_of, values}
use Rattle.ways.specs.declared.Way.{Way}
use Rattle.ways.specs.declared.Way.TheVariants.{Lower, Raise}
use Rattle.ways.specs.Way.{top, Fits, ceiling_of, offer_of, reached_of, side_of, beside}

-- a number for each state, and a cap in range
pub record Given (way : Way) (chart : List ℕ) (n m : ℕ) (ns : List ℕ) : Type 0 where
  pub size : length ns ≡ n
  pub fits : Fits way

-- numbers with the sides that go asks for, none above the top
pub record Ready (way : Way) (go : ℕ → Bool) (ns : List ℕ) : Type 0 where
  pub sides :
      (s : ℕ) → s < length ns → tested_of (num ns s) ≡ beside (value_of (num ns s)) (side_of way go s (value_of (num ns s)))
  pub within : (s : ℕ) → value_of (num ns s) ≤ top

-- arrow i of a chart
abbrev pub arrow_at : List ℕ → ℕ → Arrow
arrow_at chart i = arrow_of (arrow_words chart i)

-- what it offers its start
abbrev pub offer_at : Way → List ℕ → ℕ → List ℕ → ℕ
offer_at way chart i vs = offer_of way (arrow_at chart i) (num vs (arrow_at chart i).end)

-- what the arrow offers by the values us, its start has in vs
pub record Held (way : Way) (go : ℕ → Bool) (a : Arrow) (us vs : List ℕ) : Type 0 where
  pub is : go a.start ≡ true → offer_of way a (num us a.end) ≤ num vs a.start

-- a number may go to the ceiling: numbers rise, and its state is on a loop in which time passes
abbrev pub MayLeap : Way → List ℕ → (ℕ → Bool) → ℕ → Type 0
MayLeap Lower chart go r = ⊥
MayLeap (Raise climb) chart go r = Circled (chart_of chart) go r

-- the values moved from the old ones: by arrows of the chart, in whatever order, and by leaps to the ceiling
pub data Moved (way : Way) (chart : List ℕ) (m : ℕ) (go : ℕ → Bool) (old : List ℕ) : List ℕ → Type 0 where
  none : Moved way chart m go old old
  more :
      {vs : List ℕ} → Moved way chart m go old vs → (i : ℕ) → i < m → go (arrow_at chart i).start ≡ true →
      num vs (arrow_at chart i).start < offer_at way chart i vs →
      Moved way chart m go old (set vs (arrow_at chart i).start (reached_of way (offer_at way chart i vs)))
  leap :
      {vs : List ℕ} → Moved way chart m go old vs → (r : ℕ) → r < length vs → 1 ≤ num vs r →
      num vs r < ceiling_of way → MayLeap way chart go r → Moved way chart m go old (set vs r (ceiling_of way))

-- how far the values can still rise
abbrev pub left : Way → List ℕ → ℕ
left way vs = total (λ v. ceiling_of way - v) vs

-- what became of the numbers; any: whether a value changed
pub record Went (way : Way) (chart : List ℕ) (m : ℕ) (go : ℕ → Bool) (any : Bool) (old new : List ℕ) : Type 0 where
  pub ready : Ready way go new
  pub moved : Moved way chart m go (values old) (values new)
  pub still : any ≡ false → values new ≡ values old
  pub nearer : any ≡ true → left way (values new) < left way (values old)

-- whatever states are gone through, if the numbers have their sides
abbrev pub Goes : Way → List ℕ → ℕ → Bool → List ℕ → List ℕ → Type 0
Goes way chart m any old new = (go : ℕ → Bool) → Ready way go old → Went way chart m go any old new

-- the same, and the start of arrow i has what the arrow offered
abbrev pub Visits : Way → List ℕ → ℕ → ℕ → Bool → List ℕ → List ℕ → Type 0
Visits way chart m i any old new =
    (go : ℕ → Bool) → Ready way go old →
    Went way chart m go any old new × Held way go (arrow_at chart i) (values old) (values new)
