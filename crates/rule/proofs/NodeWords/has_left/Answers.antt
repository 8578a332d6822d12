-- An operation has the operand just where its form has it.
use mathlib.Core.Path.{sym}
use native.Mathlib.Omega.{arith}
use Rattle.rule.proofs.FormOf.{has_operand}
use Rattle.rule.proofs.NodeWords.has_left.Goals as goal

pub returns : goal.returns
returns c = sym (has_operand 2 c.args.self.operation (omega arith))
