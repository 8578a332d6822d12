-- Check and count fill the marks table alike: 02, paper 2, "for every such rule it is proved to fill the marks table as
-- the first engine does". It is said of what the two calls promise.
use Rattle.std.specs.Prelude.{◌≡◌, true, false, List, ℕ, ◌≤◌, length}
use Rattle.outcome.specs.declared.Outcome.{Outcome}
use Rattle.judge.specs.Judge.{size_of}
use Rattle.call_check.specs.Check.{Checked}
use Rattle.call_count.specs.Count.{Counted}
use Rattle.rule.specs.Refusals.{ShortBounds}

-- the answers r of check and r' of count, on a scratch each, and the marks that each leaves
pub record Alike (chart rule scratch scratch' : List ℕ) (r r' : Outcome) (newMarks newMarks' : List ℕ) : Type 0 where
  -- for "such rule", as "Bounds go to 255", and where each has its room: the same answer, accepted or refused, and the
  -- same marks
  pub same :
      ShortBounds rule → size_of false chart rule ≤ length scratch → size_of true chart rule ≤ length scratch' →
      (r ≡ r') × (newMarks ≡ newMarks')
  -- wherever both accept, the same marks
  pub accepted : r.number ≡ 0 → r'.number ≡ 0 → newMarks ≡ newMarks'

-- for every chart and rule, and every marks table that is lent to both
abbrev pub FillsAlike : Type 0
FillsAlike =
    (chart rule marks scratch scratch' : List ℕ) (r r' : Outcome) (newMarks new_scratch newMarks' newScratch' : List ℕ) →
    Checked chart rule marks scratch r newMarks new_scratch →
    Counted chart rule marks scratch' r' newMarks' newScratch' →
    Alike chart rule scratch scratch' r r' newMarks newMarks'
