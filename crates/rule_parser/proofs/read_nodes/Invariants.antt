-- Invariant: what is still to be read is read from where reading stands. Each turn comes further in the text, or has less
-- open, or is the last.
use Rattle.rule_parser.specs.Standing.{Standing, Within}
use Rattle.rule_parser.proofs.Ends.{left_to_read}
use Rattle.rule_parser.proofs.read_nodes.Given as goal

abbrev pub invariant-loop-s : goal.invariant-loop-s
invariant-loop-s l = Standing l.text l.s l.stack l.nodes × Within l.text l.s l.stack

abbrev pub decreases-loop-s : goal.decreases-loop-s
decreases-loop-s l = left_to_read l.text l.s
