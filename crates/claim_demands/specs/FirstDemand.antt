-- The first demand: nothing handed over breaks a call. Every open call is proved to end, and has no `requires`; what
-- its promise says is said here in the papers' sentences, for whatever it was handed and all that it may answer and
-- leave. An exported call promises what the call behind it does. The quoted sentences are of 01, those about count of
-- 02, paper 2.
use Rattle.std.specs.Prelude.{◌≡◌, ◌⊎◌, Bool, true, false, List, ℕ, ◌+◌, ◌*◌, ◌≤◌, ◌<◌, length, get_or, take, drop, Option, Some, None}
use Rattle.std.specs.Borrow.{Bor}
use Rattle.tctl.specs.Kind.{Runs, is_of}
use Rattle.outcome.specs.declared.Outcome.{Outcome}
use Rattle.outcome.specs.declared.Written.{Written}
use Rattle.outcome.specs.Refusal.{success}
use Rattle.outcome.specs.Met.{Unmet}
use Rattle.chart.specs.Bytes.{state_count, arrow_count, arrow_words}
use Rattle.chart.specs.declared.ArrowWords.{ArrowWords}
use Rattle.chart.specs.Refusals.{chart_table, chart_refusal}
use Rattle.rule.specs.Bytes.{node_count}
use Rattle.rule.specs.Refusals.{rule_table, rule_refusal}
use Rattle.rule.specs.Formula.{formula_of}
use Rattle.call_kind.specs.declared.Kind.TheVariants.{Neither}
use Rattle.call_kind.specs.declared.KindAnswer.{KindAnswer}
use Rattle.call_kind.specs.Kind.{says, Answered}
use Rattle.call_row.specs.declared.Choice.{Choice}
use Rattle.call_row.specs.declared.Place.{Place}
use Rattle.call_row.specs.Row.{chosen, Part, place_of}
use Rattle.call_reader.specs.declared.ChartReader.{ChartReader}
use Rattle.call_reader.specs.declared.Stepped.{Stepped}
use Rattle.call_reader.specs.Reading.{handed, step_of, moved}
use Rattle.loops.specs.Accepted.{AcceptedChart}
use Rattle.loops.specs.Refusal.{accepted_table, accepted_refusal}
use Rattle.call_map.specs.Refusals.{map_check_table, map_refusal}
use Rattle.judge.specs.Judge.{size_of, judge_table}
use Rattle.call_check.specs.Check.{Checked}
use Rattle.call_count.specs.Count.{Counted}
use Rattle.call_show.specs.Show.{Showed}
use Rattle.call_read_rule.specs.Read.{ReadAs}
use Rattle.call_write_rule.specs.Write.{Wrote}
use Rattle.claim_texts.specs.TextTold.{ReadTold, WroteTold}
use Rattle.claim_demands.specs.Acceptable.{Acceptable}
use Rattle.claim_demands.specs.Answers.{Answers}
use Rattle.claim_demands.specs.DetailRule.{Premises}
use Rattle.claim_demands.specs.ShowTold.{ShowTold}

-- ── Check and count ──

-- what check answers and leaves, or count, whatever it was handed
pub record Unbroken (counting : Bool) (chart rule marks scratch : List ℕ) (r : Outcome) (newMarks new_scratch : List ℕ) :
    Type 0 where
  pub answer :
      Answers (judge_table counting chart rule marks scratch) (Acceptable counting chart rule marks scratch) r
  -- nothing is added to what was lent, or taken from it
  pub sizes : (length newMarks ≡ length marks) × (length new_scratch ≡ length scratch)
  -- "later bytes keep their content"
  pub later_kept : (j : ℕ) → node_count rule * state_count chart ≤ j → get_or newMarks j 0 ≡ get_or marks j 0
  -- "The marks table is as lent after every refusal."
  pub marks_kept : ¬ (r.number ≡ 0) → newMarks ≡ marks
  -- "After acceptance, and after refusal 19, its first 4n numbers are 0"; for count, and with kind 3, "256 × n .. numbers,
  -- zero where 4n were"
  pub cleared :
      (r.number ≡ 0) ⊎ (r.number ≡ 19) → (i : ℕ) → i < size_of counting chart rule → get_or new_scratch i 0 ≡ 0
  -- "beyond those .. it is as lent"
  pub beyond : (i : ℕ) → size_of counting chart rule ≤ i → get_or new_scratch i 0 ≡ get_or scratch i 0
  -- "and after any other refusal, it is as lent"
  pub scratch_kept : ¬ (r.number ≡ 0) → ¬ (r.number ≡ 19) → new_scratch ≡ scratch

-- ── Kind of rule ──

-- what kind of rule answers
pub record KindTold (rule : List ℕ) (r : KindAnswer) : Type 0 where
  -- "Kind of rule gives 10 to 16."
  pub answer : Answers (rule_table rule) (Unmet (rule_table rule)) r.outcome
  -- "all-runs, some-run, both or neither"
  pub kinds : r.outcome ≡ success → (k : Runs) → says r.kind k ≡ is_of k (formula_of rule)
  -- "neither on a refusal"
  pub neither : ¬ (r.outcome.number ≡ 0) → r.kind ≡ Neither

-- ── Row ──

-- row t, of n marks, does "lie wholly in" a table of so many bytes; "n = 0 gives the empty part"
abbrev pub Wholly : ℕ → ℕ → ℕ → Type 0
Wholly size n t = (0 < n) × (t * n + n ≤ size)

-- where it lies
pub record PlaceTold (size n t : ℕ) (p : Place) : Type 0 where
  pub found : Wholly size n t → p ≡ record { start = t * n; size = n }
  -- where an empty part begins 01 leaves free: at byte 0
  pub empty : ¬ (Wholly size n t) → p ≡ record { start = 0; size = 0 }

-- the part of the table that begins at this byte and has so many, "itself and not a copy"
pub record Itself (table part : Bor (List ℕ)) (start size : ℕ) : Type 0 where
  pub inside : start + size ≤ length table.now
  pub bytes : part.now ≡ take size (drop start table.now)
  pub pointer : part.ref_ptr ≡ (table.ref_ptr.0, table.ref_ptr.1 + start)

-- the part that row answers
pub record RowTold (table part : Bor (List ℕ)) (n t : ℕ) : Type 0 where
  -- "the part of the chosen table that holds row t"
  pub found : Wholly (length table.now) n t → Itself table part (t * n) n
  -- "an empty part of that table if the row doesn't lie wholly in it"
  pub empty : ¬ (Wholly (length table.now) n t) → Itself table part 0 0

-- ── The chart reader ──

-- what a reader of these bytes at this number hands out
pub record HandedTold (s : List ℕ) (i : ℕ) (h : Option ArrowWords) : Type 0 where
  -- "in order from that number, the arrows of a chart that passes checks 1 to 9"
  pub arrow : (chart_refusal s).number ≡ 0 → i < arrow_count s → h ≡ Some (arrow_words s i)
  -- "then says finished; over any other bytes it says finished at once"
  pub finished : ¬ ((chart_refusal s).number ≡ 0) ⊎ (arrow_count s ≤ i) → h ≡ None

-- what is handed out at number i, and the number j after that
pub record StepTold (s : List ℕ) (i : ℕ) (h : Option ArrowWords) (j : ℕ) : Type 0 where
  pub answer : HandedTold s i h
  -- "the number of the next arrow"
  pub moves : (a : ArrowWords) → h ≡ Some a → j ≡ i + 1
  -- once it said finished 01 leaves the number free: it stays
  pub stays : h ≡ None → j ≡ i

-- a call of `next`: the reader before it, what is handed out, and the reader after it
pub record NextTold (before : ChartReader) (h : Option ArrowWords) (after : ChartReader) : Type 0 where
  -- it "holds the lent chart bytes"
  pub bytes : after.chart ≡ before.chart
  pub step : StepTold before.chart.now before.number h after.number

-- ── The demand ──

pub record FirstDemand : Type 0 where
  pub check :
      (chart rule marks scratch : List ℕ) (r : Outcome) (newMarks new_scratch : List ℕ) →
      Checked chart rule marks scratch r newMarks new_scratch →
      Unbroken false chart rule marks scratch r newMarks new_scratch
  pub count :
      (chart rule marks scratch : List ℕ) (r : Outcome) (newMarks new_scratch : List ℕ) →
      Counted chart rule marks scratch r newMarks new_scratch →
      Unbroken true chart rule marks scratch r newMarks new_scratch
  pub show :
      (chart rule marks scratch : List ℕ) (node state : ℕ) (output : List ℕ) (r : Written)
      (newMarks new_scratch newOutput : List ℕ) →
      Showed chart rule marks scratch node state output r newMarks new_scratch newOutput →
      ShowTold chart rule marks scratch node state output r newMarks new_scratch newOutput
  pub kind_of_rule : (rule : List ℕ) (r : KindAnswer) → Answered rule r → KindTold rule r
  pub read_rule :
      (t output : List ℕ) (r : Written) (newOutput : List ℕ) → ReadAs t output r newOutput → ReadTold t output r newOutput
  pub write_rule :
      (rule output : List ℕ) (r : Written) (newOutput : List ℕ) → Wrote rule output r newOutput →
      WroteTold rule output r newOutput
  -- "Map check tests the detail chart .., then the overview .., then 20 to 23."
  pub map_check :
      (d o p : List ℕ) (r : Outcome) → r ≡ map_refusal d o p → Answers (map_check_table d o p) (Premises d o p) r
  -- "given the overview and the detail marks tables, a choice (overview or detail), n and t"
  pub row :
      (overview detail : Bor (List ℕ)) (choice : Choice) (n t : ℕ) (part : Bor (List ℕ)) →
      let table = chosen choice overview detail in
      Part table part (place_of (length table.now) n t) → RowTold table part n t
  pub row_place : (size n t : ℕ) (p : Place) → p ≡ place_of size n t → PlaceTold size n t p
  -- `peek` and `hand_out`
  pub hand_out : (s : List ℕ) (i : ℕ) (h : Option ArrowWords) → h ≡ handed s i → HandedTold s i h
  pub step : (s : List ℕ) (i : ℕ) (r : Stepped) → r ≡ step_of s i → StepTold s i r.handed r.number
  pub next :
      (before : ChartReader) (h : Option ArrowWords) (after : ChartReader) →
      h ≡ handed before.chart.now before.number → after ≡ moved before → NextTold before h after
  -- the tables that calls share, each by itself: a chart's rows 1 to 9, those and 19, a rule's rows
  pub chart_rows : (s : List ℕ) (r : Outcome) → r ≡ chart_refusal s → Answers (chart_table s) (Unmet (chart_table s)) r
  pub chart_accepted :
      (s : List ℕ) (r : Outcome) → r ≡ accepted_refusal s → Answers (accepted_table s) (AcceptedChart s) r
  pub rule_rows : (s : List ℕ) (r : Outcome) → r ≡ rule_refusal s → Answers (rule_table s) (Unmet (rule_table s)) r
