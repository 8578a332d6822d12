-- Each case of what is open around the operand.
use native.Mathlib.Omega.{arith}
use Rattle.std.proofs.lemmas.Result.{err_from_is_err_and}
use Rattle.rule_parser.proofs.Around.{one_node_lem}
use Rattle.rule_parser.proofs.BehindTurn.{finished, negated_one, opening_low, opening_of, signed, four_deep, closed}
use Rattle.rule_parser.proofs.behind_turn.Goals as goal

pub returns-then-depth-eq0 : goal.returns-then-depth-eq0
returns-then-depth-eq0 c = finished _ _ _ _ c.requires.0 c.requires.1 c.if-depth-eq0.true c.finish.ensures

pub overflow_sub-s : goal.overflow_sub-s
overflow_sub-s c = one_node_lem _ _ _ _ c.requires.0

pub returns-then-tag-eq-NOT : goal.returns-then-tag-eq-NOT
returns-then-tag-eq-NOT c =
    rw (c.stand.ensures, c.put_node.ensures, c.low_byte-operand.ensures)
    (negated_one _ _ _ _ c.requires.0 c.requires.1 c.if-depth-eq0.false c.if-tag-eq-NOT.true)

pub sign-requires : goal.sign-requires
sign-requires c = (
  c.requires.1.read,
  opening_low _ _ _ _ c.requires.0 c.requires.1 c.if-depth-eq0.false c.if-tag-eq-NOT.false c.if-tag-lt-JOINED.true,
  opening_of _ _ _ _ c.requires.0 c.requires.1 c.if-depth-eq0.false c.if-tag-eq-NOT.false c.if-tag-lt-JOINED.true,
)

pub returns-in_err-token : goal.returns-in_err-token
returns-in_err-token c =
    let p = err_from_is_err_and c.from_residual.result c.from_residual.ensures.1 in
    rw (p.1, p.2)
    (signed _ _ _ _ c.requires.0 c.requires.1 c.if-depth-eq0.false c.if-tag-eq-NOT.false c.if-tag-lt-JOINED.true
    c.in_err-token.ensures)

pub overflow_sub-s-then-tag-lt-JOINED : goal.overflow_sub-s-then-tag-lt-JOINED
overflow_sub-s-then-tag-lt-JOINED c = one_node_lem _ _ _ _ c.requires.0

pub push_join-requires : goal.push_join-requires
push_join-requires c =
    let token =
    signed _ _ _ _ c.requires.0 c.requires.1 c.if-depth-eq0.false c.if-tag-eq-NOT.false c.if-tag-lt-JOINED.true
    c.in_ok-token.ensures in
    (token.small, token.room)

pub returns-then-tag-lt-JOINED : goal.returns-then-tag-lt-JOINED
returns-then-tag-lt-JOINED c =
    let token =
    signed _ _ _ _ c.requires.0 c.requires.1 c.if-depth-eq0.false c.if-tag-eq-NOT.false c.if-tag-lt-JOINED.true
    c.in_ok-token.ensures in
    rw (c.stand-then-tag-lt-JOINED.ensures, c.push_join.ensures, c.low_byte-left.ensures) token.turned

pub returns-in_err-end : goal.returns-in_err-end
returns-in_err-end c =
    let p = err_from_is_err_and c.from_residual-in_err-end.result c.from_residual-in_err-end.ensures.1 in
    rw (p.1, p.2)
    (closed _ _ _ _ c.requires.0 c.requires.1 c.if-depth-eq0.false c.if-tag-eq-NOT.false c.if-tag-lt-JOINED.false
    c.in_err-end.ensures)

pub overflow_sub-below : goal.overflow_sub-below
overflow_sub-below c =
    four_deep _ _ _ _ c.requires.0 c.requires.1 c.if-depth-eq0.false c.if-tag-eq-NOT.false c.if-tag-lt-JOINED.false

pub put_join-requires : goal.put_join-requires
put_join-requires c =
    let w = c.requires.1 in
    let four = four_deep _ _ _ _ c.requires.0 w c.if-depth-eq0.false c.if-tag-eq-NOT.false c.if-tag-lt-JOINED.false in (
      one_node_lem _ _ _ _ c.requires.0,
      omega (arith, four, w.few, w.read, w.room),
      c.requires.0.noded.size,
    )

pub returns : goal.returns
returns c =
    rw (c.stand-2.ensures, c.put_join.ensures)
    (closed _ _ _ _ c.requires.0 c.requires.1 c.if-depth-eq0.false c.if-tag-eq-NOT.false c.if-tag-lt-JOINED.false
    c.in_ok-end.ensures)
