-- Each token, as the machine takes it.
use Rattle.std.proofs.lemmas.Result.{err_from_is_err_and}
use Rattle.rule_parser.proofs.StartTurn.{begun}
use Rattle.rule_parser.proofs.start_turn.Goals as goal

pub returns-in_err-token : goal.returns-in_err-token
returns-in_err-token c =
    let p = err_from_is_err_and c.from_residual.result c.from_residual.ensures.1 in
    rw (p.1, p.2) (begun _ _ _ _ c.requires.0 c.requires.1 c.in_err-token.ensures)

pub returns-then-token-lt-NOT : goal.returns-then-token-lt-NOT
returns-then-token-lt-NOT c =
    let token = begun _ _ _ _ c.requires.0 c.requires.1 c.in_ok-token.ensures in
    rw (c.stand.ensures, c.put_node.ensures, c.low_byte-label.ensures) (token.leaf c.if-token-lt-NOT.true)

pub bounds-stack-top : goal.bounds-stack-top
bounds-stack-top c =
    let token = begun _ _ _ _ c.requires.0 c.requires.1 c.in_ok-token.ensures in
    token.room c.if-token-lt-NOT.false

pub returns : goal.returns
returns c =
    let token = begun _ _ _ _ c.requires.0 c.requires.1 c.in_ok-token.ensures in
    rw c.stand-2.ensures (token.pushed c.if-token-lt-NOT.false)
