-- The promises of check and count can be met, so that what is said of all that they may answer and leave is never said
-- of nothing.
use Rattle.std.specs.Prelude.{◌≡◌, Bool, List, ℕ}
use Rattle.outcome.specs.declared.Outcome.{Outcome}
use Rattle.outcome.specs.Refusal.{success}
use Rattle.rule.specs.Refusals.{rule_refusal}
use Rattle.loops.specs.Accepted.{AcceptedChart}
use Rattle.judge.specs.Judge.{Promised}
use Rattle.claim_demands.specs.DetailRule.{Accepts}

-- whatever either is handed, an answer, and marks and scratch afterwards, keep its promise
abbrev pub Answerable : Type 0
Answerable =
    (counting : Bool) (chart rule marks scratch : List ℕ) →
    (r : Outcome) × (newMarks : List ℕ) × (new_scratch : List ℕ) ×
    Promised counting chart rule marks scratch r newMarks new_scratch

-- every accepted chart and rule have marks that check leaves, so the detail rule's half about bytes speaks of each
abbrev pub SomeMarks : Type 0
SomeMarks =
    (chart rule : List ℕ) → AcceptedChart chart → rule_refusal rule ≡ success →
    (newMarks : List ℕ) × Accepts chart rule newMarks
