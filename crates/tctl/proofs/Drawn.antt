-- Drawn charts: arrows join states of the chart, and no slot is empty. An accepted chart is drawn, and so are the
-- charts that proofs make from it.
use mathlib.Core.Path.{refl, subst}
use mathlib.Core.List.{List, Memᴰ}
use Prim.Native.Nat.{ℕ, ◌<◌}
use native.Mathlib.Omega.{arith}
use Rattle.tctl.specs.Chart.{Chart, Arrow, Within, states}
use Rattle.tctl.specs.Run.{Step}
use Rattle.tctl.specs.Accepted.{Accepted}

-- the arrows join states below n
abbrev pub Joins : ℕ → List Arrow → Type 0
Joins n arrows = (a : Arrow) → Memᴰ a arrows → (a.start < n) × (a.end < n)

pub record Drawn (G : Chart) : Type 0 where
  pub starts : (a : Arrow) → Memᴰ a G.arrows → a.start < states G
  pub ends : (a : Arrow) → Memᴰ a G.arrows → a.end < states G
  pub slots : (a : Arrow) → Memᴰ a G.arrows → Within a.fewest a.most

pub accepted_drawn : {G : Chart} → Accepted G → Drawn G
accepted_drawn acc = record { starts = acc.starts; ends = acc.ends; slots = acc.slots }

-- the arrow, whose slot is not empty, taken in its fewest minutes
pub at_fewest :
    {G : Chart} (a : Arrow) → Memᴰ a G.arrows → Within a.fewest a.most →
    Step G a.start a.fewest a.end
at_fewest a m w =
    record { arrow = a; drawn = m; leaves = refl; enters = refl; least = omega arith; greatest = w }

module _ {G : Chart} (dr : Drawn G) where
  -- a step ends in a state of the chart
  pub step_below : {s d t : ℕ} → Step G s d t → t < states G
  step_below x = subst (λ u. u < states G) x.enters (dr.ends x.arrow x.drawn)

  -- the arrow, taken in its fewest minutes
  pub quickest : (a : Arrow) → Memᴰ a G.arrows → Step G a.start a.fewest a.end
  quickest a m = at_fewest a m (dr.slots a m)
