-- What show answers and leaves, whatever it was handed. The quoted sentences are of 02, paper 1, and of 01, "Calls".
use Rattle.std.specs.Prelude.{◌≡◌, ◌⊎◌, false, List, ℕ, ◌*◌, ◌≤◌, ◌<◌, length, get_or, take}
use Rattle.outcome.specs.declared.Written.{Written}
use Rattle.chart.specs.Bytes.{state_count, chart_of}
use Rattle.rule.specs.Bytes.{node_count}
use Rattle.rule.specs.Formula.{formula_at}
use Rattle.shown.specs.Shown.{Position, Showable, Shortest}
use Rattle.run_walk.specs.RunBytes.{run_bytes}
use Rattle.call_check.specs.Check.{check_refusal}
use Rattle.judge.specs.Judge.{scratch_after, Meaning}
use Rattle.call_show.specs.Show.{TrueRun, show_table, RowsMean}
use Rattle.show_refusals.specs.Fits.{table_size}
use Rattle.claim_demands.specs.Acceptable.{Acceptable}
use Rattle.claim_demands.specs.Answers.{Answers}

-- a run that is shown: "a true run of at most 256 steps" that "fits the output"
pub record Fitting (chart rule : List ℕ) (node state : ℕ) (output : List ℕ) : Type 0 where
  pub shown : List Position
  pub true_run : TrueRun chart rule node state shown
  pub short : length shown ≤ 257
  pub fits : 6 * length shown ≤ length output

-- what show accepts
pub record ShowAcceptable (chart rule marks scratch : List ℕ) (node state : ℕ) (output : List ℕ) : Type 0 where
  -- "check's own first"
  pub checked : Acceptable false chart rule marks scratch
  -- not "node or state out of range or not such a mark"
  pub node_inside : node < node_count rule
  pub state_inside : state < state_count chart
  pub mark : Showable (chart_of chart) (formula_at rule node) state
  -- not "scratch short"
  pub table : table_size (state_count chart) ≤ length scratch
  pub run : Fitting chart rule node state output

-- what it answers and leaves
pub record ShowTold
    (chart rule marks scratch : List ℕ)
    (node state : ℕ)
    (output : List ℕ)
    (r : Written)
    (newMarks new_scratch newOutput : List ℕ) : Type 0 where
  pub answer :
      Answers (show_table chart rule marks scratch node state output)
      (ShowAcceptable chart rule marks scratch node state output)
      r.outcome
  -- what rows 60 and 62 mean, where check accepts
  pub rows : (check_refusal chart rule marks scratch).number ≡ 0 → RowsMean chart rule node state output
  -- nothing is added to what was lent, or taken from it
  pub sizes :
      (length newMarks ≡ length marks) × (length new_scratch ≡ length scratch) × (length newOutput ≡ length output)
  -- "first does as check does; after 60 to 62 its marks stand"
  pub marks_stand : (check_refusal chart rule marks scratch).number ≡ 0 → Meaning chart rule newMarks
  pub marks_kept : ¬ ((check_refusal chart rule marks scratch).number ≡ 0) → newMarks ≡ marks
  -- "later bytes keep their content"
  pub later_kept : (j : ℕ) → node_count rule * state_count chart ≤ j → get_or newMarks j 0 ≡ get_or marks j 0
  -- "zero after acceptance and 62", and all else as lent
  pub cleared :
      (r.outcome.number ≡ 0) ⊎ (r.outcome.number ≡ 62) → (i : ℕ) → i < table_size (state_count chart) →
      get_or new_scratch i 0 ≡ 0
  pub beyond :
      (r.outcome.number ≡ 0) ⊎ (r.outcome.number ≡ 62) → (i : ℕ) → table_size (state_count chart) ≤ i →
      get_or new_scratch i 0 ≡ get_or scratch i 0
  -- "after 60 and 61 as check leaves it", and after check's own refusals
  pub as_checked :
      ¬ (r.outcome.number ≡ 0) → ¬ (r.outcome.number ≡ 62) →
      new_scratch ≡ scratch_after false chart rule (check_refusal chart rule marks scratch).number scratch
  -- "also answers how many bytes it wrote to each, 0 on a refusal"; "a refusal changes nothing in a lent buffer"
  pub refused : ¬ (r.outcome.number ≡ 0) → (r.written ≡ 0) × (newOutput ≡ output)
  -- "bytes past a result are kept"
  pub past_kept : (j : ℕ) → r.written ≤ j → get_or newOutput j 0 ≡ get_or output j 0
  -- "write out a run: per position the state (2 bytes) and duration (4)"; "it is proved to be a true reason"; "It has the
  -- fewest steps"; "which of several appears is free"
  pub shown :
      r.outcome.number ≡ 0 →
      (run : List Position) × (r.written ≡ 6 * length run) × (take r.written newOutput ≡ run_bytes run) ×
      Shortest (TrueRun chart rule node state) run
