-- What is printed follows from the answer of the call that writes the text.
use native.Mathlib.Omega.{arith}
use Rattle.append.proofs.Append.{appended_both, at_front, at_front_text}
use Rattle.text_call.proofs.Told.{same, refused_printed, line_printed, line_room}
use Rattle.text_call.proofs.report_text.Goals as goal

pub returns-then-outcome-ne0 : goal.returns-then-outcome-ne0
returns-then-outcome-ne0 c =
    let told = c.write_rule-answer.ensures in
    let e = refused_printed _ (λ i. omega (arith, c.type_inv.rule i)) (omega arith) told c.if-outcome-ne0.true in
    record
    { answer = same _ (λ i. omega (arith, c.type_inv.rule i)) (omega arith) told; front = at_front_text e c.refuse-printed.ensures }

pub returns : goal.returns
returns c =
    let told = c.write_rule-answer.ensures in
    let e = line_printed _ (λ i. omega (arith, c.type_inv.rule i)) (omega arith) told c.if-outcome-ne0.false in
    record
    { answer = same _ (λ i. omega (arith, c.type_inv.rule i)) (omega arith) told; front = at_front_text e (at_front (line_room _ (λ i. omega (arith, c.type_inv.rule i)) (omega arith) told c.if-outcome-ne0.false _ c.requires) (appended_both c.put_word-end.ensures c.put-printed.ensures)) }
