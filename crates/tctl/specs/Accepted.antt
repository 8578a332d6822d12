-- What the checks of a chart leave of its meaning. The quoted conditions are of rows 7, 8 and 9 of 01's table, and of 19 in 02,
-- paper 4.
use Rattle.std.specs.Prelude.{◌≡◌, ℕ, ◌<◌}
use mathlib.Core.List.{Memᴰ}
use Rattle.tctl.specs.Chart.{Chart, Arrow, Most, up_to, no_end, Within, states}
use Rattle.tctl.specs.Path.{Path, Any, To}

-- "most above 0"; "no end" is
abbrev pub AboveZero : Most → Type 0
AboveZero (up_to m) = 0 < m
AboveZero no_end = Unit {0}

-- from s a "loop holding an arrow with most above 0 can be reached": a path from s to the arrow's start, and one from its end
-- back there. A path may have no step, so a state on the loop reaches it, and an arrow from a state to itself is a loop.
pub record ReachesTimedLoop (G : Chart) (s : ℕ) : Type 0 where
  pub arrow : Arrow
  pub drawn : Memᴰ arrow G.arrows
  pub timed : AboveZero arrow.most
  pub reached : Path G Any (To arrow.start) s
  pub back : Path G Any (To arrow.start) arrow.end

-- none of these conditions is met
pub record Accepted (G : Chart) : Type 0 where
  -- 7: "arrow names a state n or above"
  pub starts : (a : Arrow) → Memᴰ a G.arrows → a.start < states G
  pub ends : (a : Arrow) → Memᴰ a G.arrows → a.end < states G
  -- 8: "fewest above most", so that no slot is empty; "or fewest 65,535" is a limit of the bytes
  pub slots : (a : Arrow) → Memᴰ a G.arrows → Within a.fewest a.most
  -- 9: "state without an outgoing arrow"
  pub leaves : (s : ℕ) → s < states G → (a : Arrow) × Memᴰ a G.arrows × (a.start ≡ s)
  -- 19: "a state from which no loop holding an arrow with most above 0 can be reached"
  pub timed : (s : ℕ) → s < states G → ReachesTimedLoop G s
