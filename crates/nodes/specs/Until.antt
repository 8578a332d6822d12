-- What an until makes of its operands, by its operation.
use Rattle.std.specs.Prelude.{◌≡◌, Bool, true, cond, ◌||◌, ℕ, ◌≤◌, ◌<◌, eqb}
use Rattle.tctl.specs.Formula.{Bound}
use Rattle.model.specs.Decide.{ask, some_row, all_row}
use Rattle.rule.specs.declared.NodeWords.{NodeWords}
use Rattle.rule.specs.Refusals.{is_exact}
use Rattle.operands.specs.FromOperands.{OperandsBelow, ByOperands}

-- some run meets the until of E, operation 5; or else every run meets that of A
abbrev pub until_met : ℕ → Bound → ByOperands
until_met operation bound arrows n p q =
    ask (cond (eqb operation 5) (some_row arrows n bound p q) (all_row arrows n bound p q))

-- the until goes by minutes: where every until does, or for its exact bound
abbrev pub by_minutes : Bool → NodeWords → Bool
by_minutes counting w = counting || is_exact w

-- node t is an until over lower rows, with a bound of a known kind, no longer than can be counted where minutes are
pub record UntilRead (counting : Bool) (t : ℕ) (w : NodeWords) : Type 0 where
  pub operands : OperandsBelow t w
  pub least : 5 ≤ w.operation
  pub greatest : w.operation ≤ 6
  pub kind : (1 ≤ w.kind) × (w.kind ≤ 3)
  pub small : w.c < 65536
  pub short : by_minutes counting w ≡ true → w.c ≤ 255
