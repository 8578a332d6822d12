-- The operands that the form has, one use after the other.
use mathlib.Core.Path.{sym, ◌∙◌}
use native.Mathlib.Omega.{arith}
use borrow.Author.Tests.{leb-false, lt-leb}
use Rattle.rule.specs.Form.{form_of}
use Rattle.rule_uses.proofs.Counted.{counted_same, uses_by}
use Rattle.rule_uses.proofs.with_operands.Goals as goal

pub returns-then-not-has_left : goal.returns-then-not-has_left
returns-then-not-has_left c count h =
    let f = form_of c.args.w.operation in
    let left = sym c.has_left.ensures ∙ c.if-not-has_left.true in
    let none = uses_by c.args.w left (lt-leb 3 f (omega (arith, leb-false 2 f left))) in
    counted_same h (λ v. omega (arith, none v))

pub returns-then-not-has_right : goal.returns-then-not-has_right
returns-then-not-has_right c count h =
    let left = sym c.has_left.ensures ∙ c.if-not-has_left.false in
    let one = uses_by c.args.w left (sym c.has_right.ensures ∙ c.if-not-has_right.true) in
    counted_same (c.with_use-left.ensures count h) (λ v. omega (arith, one v))

pub returns : goal.returns
returns c count h =
    let left = sym c.has_left.ensures ∙ c.if-not-has_left.false in
    let two = uses_by c.args.w left (sym c.has_right.ensures ∙ c.if-not-has_right.false) in
    counted_same (c.with_use.ensures _ (c.with_use-left.ensures count h)) (λ v. omega (arith, two v))
