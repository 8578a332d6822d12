-- Each refusal in its turn; past them the rule is written out.
use mathlib.Core.Path.{◌≡◌, refl, ap}
use Prim.Native.Nat.{ℕ}
use native.Mathlib.Omega.{arith}
use Rattle.outcome.specs.declared.Outcome.{Outcome}
use Rattle.outcome.specs.declared.Written.{Written}
use Rattle.outcome.specs.Refusal.{refusal}
use Rattle.call_read_rule.specs.Read.{refused}
use Rattle.rule_grammar.proofs.Judged.{judged}
use Rattle.call_read_rule.proofs.Answer.{place_inside, too_long, no_text, too_many, too_short, taken}
use Rattle.call_read_rule.proofs.read.Goals as goal

-- a refusal as the call answers it
as_written :
    {o : Outcome} {n p : ℕ} → o ≡ refusal n p → ◌≡◌ {A = Written} (record { outcome = o; written = 0 }) (refused n p)
as_written e = ap (λ o. record { outcome = o; written = 0 }) e

pub returns-then-text-gt-LONGEST : goal.returns-then-text-gt-LONGEST
returns-then-text-gt-LONGEST c = too_long _ _ (judged _) c.if-text-gt-LONGEST.true (as_written c.at.ensures)

pub at-requires-in-Err : goal.at-requires-in-Err
at-requires-in-Err c = omega (arith, place_inside c.in-Err.ensures (judged _), c.if-text-gt-LONGEST.false)

pub returns-in-Err : goal.returns-in-Err
returns-in-Err c = no_text _ _ c.if-text-gt-LONGEST.false (judged _) c.in-Err.ensures (as_written c.at-in-Err.ensures)

pub returns-then-count-gt-NODES : goal.returns-then-count-gt-NODES
returns-then-count-gt-NODES c =
    too_many _ _ c.if-text-gt-LONGEST.false (judged _) c.in-Ok.ensures c.if-count-gt-NODES.true
    (as_written c.at-then-count-gt-NODES.ensures)

pub returns-then-output-count : goal.returns-then-output-count
returns-then-output-count c =
    too_short _ _ c.if-text-gt-LONGEST.false (judged _) c.in-Ok.ensures c.if-count-gt-NODES.false
    c.if-output-count.true (as_written c.at-then-output-count.ensures)

pub returns : goal.returns
returns c =
    taken _ _ c.if-text-gt-LONGEST.false (judged _) c.in-Ok.ensures c.if-count-gt-NODES.false c.if-output-count.false
    refl c.put_rule.ensures
