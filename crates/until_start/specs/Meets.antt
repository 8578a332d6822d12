-- What an until makes of its operands, state by state.
use Rattle.std.specs.Prelude.{Bool, ℕ, leb}
use Rattle.tctl.specs.Formula.{Bound}
use Rattle.model.specs.Engine.{num}
use Rattle.model.specs.Decide.{ask, some_row, all_row, plain_row, waits}
use Rattle.model.specs.Weighed.{weighed}
use Rattle.operands.specs.FromOperands.{ByOperands}

-- some run meets the until
abbrev pub some_meets : Bound → ByOperands
some_meets bound arrows n p q = ask (some_row arrows n bound p q)

-- every run meets the until
abbrev pub all_meet : Bound → ByOperands
all_meet bound arrows n p q = ask (all_row arrows n bound p q)

-- every run meets the until with no bound
abbrev pub all_meet_plain : ByOperands
all_meet_plain arrows n p q = ask (plain_row arrows n p q)

-- no run fails the until, or waits for it, up to a limit of minutes or of ticks
abbrev pub unhindered_up_to : Bool → ℕ → ByOperands
unhindered_up_to ticks limit arrows n p q s = leb (num (waits (weighed ticks arrows) n limit p q) s) limit
