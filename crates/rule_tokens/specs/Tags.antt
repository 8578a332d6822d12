-- A byte for what stands before an operand: 2 for "!"; for two operands that are open 3 for "(", 5 for "E(", 6 for
-- "A(", their node's operation but for "|"; behind the sign 8 × the node's operation + its kind.
use Rattle.std.specs.Prelude.{◌≡◌, ℕ, ◌+◌, ◌*◌}
use Rattle.tctl.specs.Kind.{Runs, some_run, all_runs}
use Rattle.rule_grammar.specs.Machine.{Sign, Join, Opening, pair, timed, bound, most_of}
use Rattle.rule_bytes.specs.RuleBytes
use Rattle.rule_bytes.specs.JoinNode.{operation_of, kind_of, number_of}

abbrev pub open_tag : Opening → ℕ
open_tag pair = 3
open_tag (timed some_run) = 5
open_tag (timed all_runs) = 6

abbrev pub until_tag : Runs → Sign → ℕ
until_tag q s = 8 * open_tag (timed q) + RuleBytes.kind_of (bound s 0)

abbrev pub join_tag : Join → ℕ
join_tag j = 8 * operation_of j + kind_of j

-- what a tag is of
pub record OfOpening (tag : ℕ) : Type 0 where
  pub opening : Opening
  pub same : tag ≡ open_tag opening

pub record OfRuns (tag : ℕ) : Type 0 where
  pub runs : Runs
  pub same : tag ≡ open_tag (timed runs)

-- with the most that its c may be
pub record OfUntil (tag most : ℕ) : Type 0 where
  pub runs : Runs
  pub sign : Sign
  pub same : tag ≡ until_tag runs sign
  pub same_most : most ≡ most_of sign

pub record OfJoin (tag number : ℕ) : Type 0 where
  pub join : Join
  pub same : tag ≡ join_tag join
  pub same_number : number ≡ number_of join
