-- The node of two operands, by what joins them.
use Rattle.std.specs.Prelude.{ℕ}
use Rattle.tctl.specs.Kind.{some_run, all_runs}
use Rattle.rule_grammar.specs.Machine.{Join, conj, disj, until, bound}
use Rattle.rule_bytes.specs.RuleBytes

abbrev pub operation_of : Join → ℕ
operation_of conj = 3
operation_of disj = 4
operation_of (until some_run s c) = 5
operation_of (until all_runs s c) = 6

abbrev pub kind_of : Join → ℕ
kind_of conj = 0
kind_of disj = 0
kind_of (until q s c) = RuleBytes.kind_of (bound s c)

abbrev pub number_of : Join → ℕ
number_of conj = 0
number_of disj = 0
number_of (until q s c) = c
