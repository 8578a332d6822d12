-- Invariant: what is still to be read is read from where reading stands. Each turn comes further in the text, or has less
-- open, or is the last.
use mathlib.Core.Path.{◌≡◌}
use native.Mathlib.Omega.{arith}
use borrow.Author.Rules.{rules}
use Rattle.std.proofs.lemmas.Result.{err_from_is_err_and}
use Rattle.rule_parser.specs.declared.Phase.TheVariants.{Done}
use Rattle.rule_parser.proofs.Ends.{begins, read_whole, read_fault}
use Rattle.rule_parser.proofs.read_nodes.Goals as goal

pub loop-s-init : goal.loop-s-init
loop-s-init c =
    rw c.stand-s.ensures (
      begins c.args.text.now c.args.stack.now c.args.nodes.now c.requires.2,
      record { read = omega arith; short = c.requires.0; room = c.requires.1; few = omega arith },
    )

pub returns-in_err-s : goal.returns-in_err-s
returns-in_err-s c =
    let p = err_from_is_err_and c.from_residual.result c.from_residual.ensures.1 in
    rw (p.1, p.2) (read_fault c.in_err-s.ensures)

pub returns : goal.returns
returns c =
    let done : c.loop-s.s.phase ≡ Done = search rules in
    read_whole (rw done at c.loop-s.invariant.0)
