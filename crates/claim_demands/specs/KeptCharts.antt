-- What paper 4 kept: every chart that was accepted before it is accepted now, with the same marks. What a chart had to be and
-- what a rule meant before stand here for this one claim. The quoted sentences are of 01.
use Rattle.std.specs.Prelude.{◌≡◌, ◌↔◌, ◌⊎◌, Bool, List, ℕ, suc, ◌+◌, ◌*◌, ◌≤◌, ◌<◌, get_or}
use Rattle.base.specs.Sum.{sum}
use Rattle.tctl.specs.Chart.{Chart, Labelled}
use Rattle.tctl.specs.Run.{Step}
use Rattle.tctl.specs.Path.{Path, Any, To, steps, minutes}
use Rattle.tctl.specs.Formula.{Bound, Meets, Formula, always, label, not, and, or, some_until, all_until}
use Rattle.tctl.specs.Holds.{Holds}
use Rattle.outcome.specs.declared.Outcome.{Outcome}
use Rattle.outcome.specs.Refusal.{success}
use Rattle.chart.specs.Bytes.{state_count, chart_of}
use Rattle.chart.specs.Refusals.{chart_refusal}
use Rattle.rule.specs.Bytes.{node_count}
use Rattle.rule.specs.Formula.{formula_at}
use Rattle.loops.specs.Refusal.{accepted_refusal}
use Rattle.judge.specs.Judge.{Tells, Promised}

-- ── Before ──

-- s is on "a loop of arrows whose fewest are all 0": a path of one step at least from s to s that takes no minute, since only
-- such arrows can be taken in no minute
abbrev pub OnZeroLoop : Chart → ℕ → Type 0
OnZeroLoop G s = (p : Path G Any (To s) s) × (1 ≤ steps p) × (minutes p ≡ 0)

-- "A chart is accepted exactly if it passes checks 1 to 9 and 19", 19 being "a loop of arrows whose fewest are all 0"
pub record AcceptedBefore (chart : List ℕ) : Type 0 where
  pub rows : chart_refusal chart ≡ success
  pub timed : (s : ℕ) → ¬ OnZeroLoop (chart_of chart) s

-- "A run is unending: at each whole number it has a state": whether its moments pass every number or not
pub record RunBefore (G : Chart) (s : ℕ) : Type 0 where
  pub state : ℕ → ℕ
  pub duration : ℕ → ℕ
  pub starts : state 0 ≡ s
  pub moves : (i : ℕ) → Step G (state i) (duration i) (state (suc i))

-- "a position whose moment meets the bound, where Q holds and P holds at every earlier position"
pub record MetBefore (G : Chart) (P Q : ℕ → Type 0) (b : Bound) (s : ℕ) (r : RunBefore G s) : Type 0 where
  pub position : ℕ
  pub intime : Meets b (sum r.duration position)
  pub there : Q (r.state position)
  pub before : (j : ℕ) → j < position → P (r.state j)

-- "E(P until Q, bound) holds at s if some run from s has" such a position; "A(...) asks this of every run from s"
abbrev pub HoldsBefore : Chart → Formula → ℕ → Type 0
HoldsBefore G always s = Unit {0}
HoldsBefore G (label i) s = Labelled G s i
HoldsBefore G (not f) s = HoldsBefore G f s → ⊥
HoldsBefore G (and f g) s = HoldsBefore G f s × HoldsBefore G g s
HoldsBefore G (or f g) s = HoldsBefore G f s ⊎ HoldsBefore G g s
HoldsBefore G (some_until b f g) s = (r : RunBefore G s) × MetBefore G (HoldsBefore G f) (HoldsBefore G g) b s r
HoldsBefore G (all_until b f g) s = (r : RunBefore G s) → MetBefore G (HoldsBefore G f) (HoldsBefore G g) b s r

-- ── The claim ──

pub record Kept (chart : List ℕ) : Type 0 where
  -- accepted now
  pub accepted : accepted_refusal chart ≡ success
  -- every rule holds where it held
  pub holds :
      (f : Formula) (s : ℕ) → s < state_count chart → HoldsBefore (chart_of chart) f s ↔ Holds (chart_of chart) f s
  -- the same marks: byte t × n + s of what check leaves when it accepts, and count, tells whether node t held at state s
  pub marks :
      (counting : Bool) (rule marks scratch : List ℕ) (r : Outcome) (newMarks new_scratch : List ℕ) →
      Promised counting chart rule marks scratch r newMarks new_scratch → r.number ≡ 0 →
      (t s : ℕ) → t < node_count rule → s < state_count chart →
      Tells (get_or newMarks (t * state_count chart + s) 0) (HoldsBefore (chart_of chart) (formula_at rule t) s)

-- for every chart that was accepted
abbrev pub KeptCharts : Type 0
KeptCharts = (chart : List ℕ) → AcceptedBefore chart → Kept chart
