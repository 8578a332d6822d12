-- The call show. The quoted words are of 02, paper 1.
use Rattle.std.specs.Prelude.{◌≡◌, ◌↔◌, ◌⊎◌, Bool, true, false, cond, ◌||◌, not as neg, List, [], ◌∷◌, ◌++◌, ℕ, ◌*◌, ◌≤◌, ◌<◌, length, eqb, leb, ltb}
use Rattle.std.proofs.Math.Option.{Option}
use Rattle.outcome.specs.declared.Outcome.{Outcome}
use Rattle.outcome.specs.declared.Written.{Written}
use Rattle.outcome.specs.Refusal.{Row, refuse, whole, first}
use Rattle.append.specs.Piece.{AtFront}
use Rattle.chart.specs.Bytes.{state_count, chart_of}
use Rattle.rule.specs.Bytes.{node_count}
use Rattle.rule.specs.Formula.{formula_at}
use Rattle.shown.specs.Shown.{Position, duration_at, state_at, Reason, Showable, Shortest}
use Rattle.shown.specs.Showable.{showable}
use Rattle.shown.specs.Showable.{steps_of as fewestOf}
use Rattle.run_walk.specs.RunBytes.{run_bytes}
use Rattle.call_check.specs.Check.{check_table, check_refusal}
use Rattle.judge.specs.Judge.{marks_after, scratch_after, Meaning}
use Rattle.show_refusals.specs.Fits.{table_size, table_cleared, unfit}

module _ (chart rule : List ℕ) (node state : ℕ) where
  -- "node or state out of range or not such a mark"
  abbrev pub no_mark : Bool
  no_mark =
      leb (node_count rule) node ||
      (leb (state_count chart) state || neg (showable (chart_of chart) (formula_at rule node) state))

  -- the fewest steps, at most 256, of a true run
  abbrev pub steps_of : Option ℕ
  steps_of = fewestOf (chart_of chart) (formula_at rule node) state

  -- "a true run", a true reason for the mark
  abbrev pub TrueRun : List Position → Type 0
  TrueRun = Reason (chart_of chart) (formula_at rule node) state

-- "check's own first, then 60 .., 61 .., 62 exactly if no true run of at most 256 steps fits the output"
unfoldable pub show_table : List ℕ → List ℕ → List ℕ → List ℕ → ℕ → ℕ → List ℕ → List Row
show_table chart rule marks scratch node state output =
    check_table chart rule marks scratch ++
    refuse 60 (whole (no_mark chart rule node state)) ∷
    refuse 61 (whole (ltb (length scratch) (table_size (state_count chart)))) ∷
    refuse 62 (whole (unfit (length output) (steps_of chart rule node state))) ∷
    []

-- the first row of show that is met
abbrev pub show_refusal : List ℕ → List ℕ → List ℕ → List ℕ → ℕ → ℕ → List ℕ → Outcome
show_refusal chart rule marks scratch node state output =
    first (show_table chart rule marks scratch node state output)

-- "zero after acceptance and 62; after 60 and 61 as check leaves it", and as check leaves it after its own refusals; the
-- numbers are check's and show's
unfoldable pub table_after : List ℕ → List ℕ → ℕ → ℕ → List ℕ → List ℕ
table_after chart rule checked number scratch =
    cond (eqb number 0 || eqb number 62) (table_cleared (state_count chart) scratch)
    (scratch_after false chart rule checked scratch)

-- a run that the bytes can tell: "the state (2 bytes) and duration (4)"
pub record Writable (shown : List Position) : Type 0 where
  pub states : (i : ℕ) → state_at shown i < 65536
  pub durations : (i : ℕ) → duration_at shown i < 4294967296

-- what rows 60 and 62 mean, where check accepts
pub record RowsMean (chart rule : List ℕ) (node state : ℕ) (output : List ℕ) : Type 0 where
  pub mark :
      (no_mark chart rule node state ≡ true) ↔
      ((node_count rule ≤ node) ⊎ (state_count chart ≤ state) ⊎ (¬ Showable (chart_of chart) (formula_at rule node) state))
  pub fits :
      node < node_count rule → state < state_count chart →
      (unfit (length output) (steps_of chart rule node state) ≡ true) ↔
      ((shown : List Position) → TrueRun chart rule node state shown → length shown ≤ 257 →
      ¬ (6 * length shown ≤ length output))

-- all that show promises: its answer r, and marks, scratch and output afterwards. Which of several shortest reasons is
-- shown "is free".
pub record Showed
    (chart rule marks scratch : List ℕ)
    (node state : ℕ)
    (output : List ℕ)
    (r : Written)
    (newMarks new_scratch newOutput : List ℕ) : Type 0 where
  pub answer : r.outcome ≡ show_refusal chart rule marks scratch node state output
  -- "after 60 to 62 its marks stand"
  pub written : newMarks ≡ marks_after chart rule (check_refusal chart rule marks scratch).number marks
  pub meaning : (check_refusal chart rule marks scratch).number ≡ 0 → Meaning chart rule newMarks
  pub cleared :
      new_scratch ≡ table_after chart rule (check_refusal chart rule marks scratch).number r.outcome.number scratch
  pub rows : (check_refusal chart rule marks scratch).number ≡ 0 → RowsMean chart rule node state output
  -- what is shown: nothing on a refusal
  pub shown : List Position
  pub refused : ¬ (r.outcome.number ≡ 0) → shown ≡ []
  pub front : AtFront (run_bytes shown) r.written output newOutput
  pub told : Writable shown
  pub reason : r.outcome.number ≡ 0 → Shortest (TrueRun chart rule node state) shown
