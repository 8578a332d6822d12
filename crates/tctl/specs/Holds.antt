-- Where a rule holds. The quoted sentences are of 01, "Meaning of charts and rules".
use Rattle.std.specs.Prelude.{◌⊎◌, ℕ, ◌<◌}
use Rattle.tctl.specs.Chart.{Chart, Labelled}
use Rattle.tctl.specs.Run.{Run, moment}
use Rattle.tctl.specs.Formula.{Bound, Meets, Formula, always, label, not, and, or, some_until, all_until}

-- "a position whose moment meets the bound, where Q holds and P holds at every earlier position"
-- "Position 0 counts. P isn't asked for at the position itself."
pub record Met (G : Chart) (P Q : ℕ → Type 0) (b : Bound) (s : ℕ) (r : Run G s) : Type 0 where
  pub position : ℕ
  pub intime : Meets b (moment r position)
  pub there : Q (r.state position)
  pub before : (j : ℕ) → j < position → P (r.state j)

-- "E(P until Q, bound) holds at s if some run from s has" such a position; "A(...) asks this of every run from s"
abbrev pub Holds : Chart → Formula → ℕ → Type 0
Holds G always s = Unit {0}
Holds G (label i) s = Labelled G s i
Holds G (not f) s = Holds G f s → ⊥
Holds G (and f g) s = Holds G f s × Holds G g s
Holds G (or f g) s = Holds G f s ⊎ Holds G g s
Holds G (some_until b f g) s = (r : Run G s) × Met G (Holds G f) (Holds G g) b s r
Holds G (all_until b f g) s = (r : Run G s) → Met G (Holds G f) (Holds G g) b s r
