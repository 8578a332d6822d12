-- The kinds of a rule. The quoted sentences are of 01, "Calls".
use Rattle.std.specs.Prelude.{Bool, true, false, ◌&&◌}
use Rattle.tctl.specs.Formula.{Formula, always, label, not, and, or, some_until, all_until}

-- the all-runs kind and the some-run kind
pub data Runs : Type 0 where
  all_runs some_run : Runs

-- "and the other way round"
abbrev pub other : Runs → Runs
other all_runs = some_run
other some_run = all_runs

-- "True and labels are both. Not is of the all-runs kind exactly if its operand is of the some-run kind, and the other
-- way round. And, or need both operands of the kind. A-until is all-runs exactly if both operands are, and never
-- some-run; E-until likewise with the kinds exchanged."
abbrev pub is_of : Runs → Formula → Bool
is_of k always = true
is_of k (label i) = true
is_of k (not f) = is_of (other k) f
is_of k (and f g) = is_of k f && is_of k g
is_of k (or f g) = is_of k f && is_of k g
is_of all_runs (all_until b f g) = is_of all_runs f && is_of all_runs g
is_of some_run (all_until b f g) = false
is_of all_runs (some_until b f g) = false
is_of some_run (some_until b f g) = is_of some_run f && is_of some_run g
