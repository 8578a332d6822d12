-- What the answer of the call tells of what is written and printed.
use mathlib.Core.Path.{◌≡◌, subst}
use mathlib.Core.List.{List}
use Prim.Native.Nat.{ℕ, ◌≤◌}
use lib.ListN.{length}
use borrow.Author.Tests.{eq-eqb, ne_eqb}
use Rattle.append.specs.Piece.{AtFront}
use Rattle.append.proofs.Append.{at_front_none}
use Rattle.outcome.specs.declared.Written.{Written}
use Rattle.rule_grammar.specs.Grammar.{Verdict, Judged}
use Rattle.call_read_rule.specs.Read.{written_rule, ReadAs}
use Rattle.typed_listing.specs.Refused.{refused_text}
use Rattle.typed_call.specs.Answer.{rule_room, typed, outcome_of, printed_of, Typing}
use Rattle.typed_call.proofs.Enough.{answer_near}

-- the text of the input was read, and there was room for any rule
module _
    (input rule : List ℕ) {t newRule : List ℕ} {r : Written} (e : t ≡ typed input) (lent : length rule ≡ rule_room)
    (read : ReadAs t rule r newRule)
  where
    abbrev v : Verdict
    v = read.verdict

    judged : Judged (typed input) v
    judged = subst (λ s. Judged s v) e read.judged

    same : r.outcome ≡ outcome_of (typed input) v
    same = rw (← e, ← lent) read.outcome

    pub near : r.outcome.place ≤ 4096
    near = rw same (answer_near judged).0

    answers :
        {printed : ℕ} {out newOut : List ℕ} → AtFront (printed_of (typed input) r.outcome) printed out newOut →
        Typing input rule out (record { outcome = r.outcome; written = r.written; printed = printed }) newRule newOut
    answers {printed} {out} {newOut} p =
        record {
          verdict = v;
          judged = judged;
          answer = same;
          rule_front = subst (λ o. AtFront (written_rule v o.number) r.written rule newRule) same read.front;
          text_front = subst (λ o. AtFront (printed_of (typed input) o) printed out newOut) same p;
        }

    pub accepted :
        {out : List ℕ} → r.outcome.number ≡ 0 →
        Typing input rule out (record { outcome = r.outcome; written = r.written; printed = 0 }) newRule out
    accepted z = answers (rw (eq-eqb r.outcome.number 0 z) at_front_none)

    pub refused :
        {printed : ℕ} {out newOut : List ℕ} → ¬ (r.outcome.number ≡ 0) →
        AtFront (refused_text r.outcome t) printed out newOut →
        Typing input rule out (record { outcome = r.outcome; written = r.written; printed = printed }) newRule newOut
    refused h p = answers (rw (ne_eqb r.outcome.number 0 h, ← e) p)
