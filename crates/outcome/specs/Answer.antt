-- What a test of a part of a table answers: nothing, or the row that is met and its place.
use Rattle.std.specs.Prelude.{ℕ, Result, Ok, Err, ⊤}
use Rattle.outcome.specs.declared.Fault.{Fault}
use Rattle.outcome.specs.declared.Fault.TheVariants.{ChartShort, ChartVersion, ChartStated, StateCount, ArrowCount, ChartLength, NoSuchState, EmptySlot, NoArrowOut, RuleShort, RuleVersion, RuleStated, NodeCount, Malformed, NotLower, NotUsedOnce, MarksTable, Scratch, NoTimedLoop, NoMap, NoOverviewState, LabelsDiffer, NotCovered, NotShowable, TableScratch, NoRunFits, LongBound, NotAText, TooMuch, OutputShort}
use Rattle.outcome.specs.declared.Refusal.{Refusal}
use Rattle.outcome.specs.declared.Outcome.{Outcome}
use Rattle.outcome.specs.declared.Written.{Written}
use Rattle.outcome.specs.Refusal.{success, refusal}

-- the number of a row, as 01's table and 02 have it
abbrev pub number_of : Fault → ℕ
number_of ChartShort = 1
number_of ChartVersion = 2
number_of ChartStated = 3
number_of StateCount = 4
number_of ArrowCount = 5
number_of ChartLength = 6
number_of NoSuchState = 7
number_of EmptySlot = 8
number_of NoArrowOut = 9
number_of RuleShort = 10
number_of RuleVersion = 11
number_of RuleStated = 12
number_of NodeCount = 13
number_of Malformed = 14
number_of NotLower = 15
number_of NotUsedOnce = 16
number_of MarksTable = 17
number_of Scratch = 18
number_of NoTimedLoop = 19
number_of NoMap = 20
number_of NoOverviewState = 21
number_of LabelsDiffer = 22
number_of NotCovered = 23
number_of NotShowable = 60
number_of TableScratch = 61
number_of NoRunFits = 62
number_of LongBound = 63
number_of NotAText = 64
number_of TooMuch = 65
number_of OutputShort = 66

-- the outcome that a refusal is
abbrev pub told : Refusal → Outcome
told r = refusal (number_of r.fault) r.place

-- the outcome that a test answers
abbrev pub answer : Result ⊤ Refusal → Outcome
answer (Ok passed) = success
answer (Err r) = told r

-- the same of a call with one output: how many bytes it wrote, "0 on a refusal"
abbrev pub written : Result ℕ Refusal → Written
written (Ok size) = record { outcome = success; written = size }
written (Err r) = record { outcome = told r; written = 0 }
