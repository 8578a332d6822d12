-- The third entry of an outcome follows from its number, as the table says (outcome/specs/Entry.antt), for every call and
-- whatever it was handed. An exported call promises what the call behind it does. The quoted words are of 02, paper 6.
use Rattle.std.specs.Prelude.{◌≡◌, ◌⊎◌, List, ℕ}
use Rattle.outcome.specs.declared.Outcome.{Outcome}
use Rattle.outcome.specs.declared.Written.{Written}
use Rattle.outcome.specs.Entry.{chart_or_detail, overview, entry_of}
use Rattle.outcome.specs.Refusal.{outcome}
use Rattle.chart.specs.Refusals.{chart_refusal}
use Rattle.rule.specs.Refusals.{rule_refusal}
use Rattle.loops.specs.Refusal.{accepted_refusal}
use Rattle.call_kind.specs.declared.KindAnswer.{KindAnswer}
use Rattle.call_kind.specs.Kind.{Answered}
use Rattle.call_map.specs.Refusals.{map_refusal}
use Rattle.call_check.specs.Check.{Checked}
use Rattle.call_count.specs.Count.{Counted}
use Rattle.call_show.specs.Show.{Showed}
use Rattle.call_read_rule.specs.Read.{ReadAs}
use Rattle.call_write_rule.specs.Write.{Wrote}

-- the entry is the number's own
abbrev pub Follows : Outcome → Type 0
Follows r = r.entry ≡ entry_of r.number

-- of map check, whose answers about the overview are the only ones that carry another
pub record MapFollows (d o : List ℕ) (r : Outcome) : Type 0 where
  -- the detail is refused, or the overview is not
  pub own : ¬ ((accepted_refusal d).number ≡ 0) ⊎ ((accepted_refusal o).number ≡ 0) → Follows r
  -- "Overview refusals then use the chart numbers 1 to 9 and 19": a number that carries 1 for a chart by itself
  pub other :
      (accepted_refusal d).number ≡ 0 → ¬ ((accepted_refusal o).number ≡ 0) → let alone = accepted_refusal o in
      (r ≡ outcome alone.number alone.place overview) × (entry_of r.number ≡ chart_or_detail)

pub record EntriesFollow : Type 0 where
  pub check :
      (chart rule marks scratch : List ℕ) (r : Outcome) (newMarks new_scratch : List ℕ) →
      Checked chart rule marks scratch r newMarks new_scratch → Follows r
  pub count :
      (chart rule marks scratch : List ℕ) (r : Outcome) (newMarks new_scratch : List ℕ) →
      Counted chart rule marks scratch r newMarks new_scratch → Follows r
  pub show :
      (chart rule marks scratch : List ℕ) (node state : ℕ) (output : List ℕ) (r : Written)
      (newMarks new_scratch newOutput : List ℕ) →
      Showed chart rule marks scratch node state output r newMarks new_scratch newOutput → Follows r.outcome
  pub kind_of_rule : (rule : List ℕ) (r : KindAnswer) → Answered rule r → Follows r.outcome
  pub read_rule :
      (t output : List ℕ) (r : Written) (newOutput : List ℕ) → ReadAs t output r newOutput → Follows r.outcome
  pub write_rule :
      (rule output : List ℕ) (r : Written) (newOutput : List ℕ) → Wrote rule output r newOutput → Follows r.outcome
  pub map_check : (d o p : List ℕ) (r : Outcome) → r ≡ map_refusal d o p → MapFollows d o r
  -- the tables that calls share, each by itself
  pub chart_rows : (s : List ℕ) (r : Outcome) → r ≡ chart_refusal s → Follows r
  pub chart_accepted : (s : List ℕ) (r : Outcome) → r ≡ accepted_refusal s → Follows r
  pub rule_rows : (s : List ℕ) (r : Outcome) → r ≡ rule_refusal s → Follows r
