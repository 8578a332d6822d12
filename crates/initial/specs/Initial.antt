-- What numbers start from, by the marks of two operands.
use Rattle.std.specs.Prelude.{◌≡◌, Bool, true, cond, ◌&&◌, ◌||◌, not as neg, ℕ, ◌-◌, ◌<◌, ltb}
use Rattle.hints.specs.Values.{sided}
use Rattle.ways.specs.Way.{top, beside}
use Rattle.initial.specs.declared.Initial.{Initial}
use Rattle.initial.specs.declared.Initial.TheVariants.{Reach, Goal, Fail, Stay}
use Rattle.initial.specs.declared.Four.{Four}

-- the cap that an initial is given
abbrev pub cap_of : Initial → ℕ
cap_of (Reach cap) = cap
cap_of (Goal cap) = cap
cap_of (Fail cap) = cap
cap_of (Stay cap) = cap

-- the value of a state, from the marks of two operands
abbrev pub start_of : Initial → Bool → Bool → ℕ
start_of (Reach cap) p q = cond q top (top - cap)
start_of (Goal cap) p q = cond q 1 0
start_of (Fail cap) p q = cond (p || q) 1 cap
start_of (Stay cap) p q = cond p (top - cap) top

-- the state is gone through
abbrev pub go_of : Initial → Bool → Bool → Bool
go_of (Reach cap) p q = p
go_of (Goal cap) p q = p
go_of (Fail cap) p q = p && neg q
go_of (Stay cap) p q = true

-- no value rises above it
abbrev pub limit_of : Initial → ℕ
limit_of (Reach cap) = top
limit_of (Goal cap) = cap
limit_of (Fail cap) = cap
limit_of (Stay cap) = top

-- the value v, and a side unless its state is gone through and it is below the limit
abbrev pub placed_of : ℕ → Bool → ℕ → ℕ
placed_of v go limit = beside v (neg (go && ltb v limit))

-- the value and the side of a state, from the marks of two operands
abbrev pub initial_of : Initial → Bool → Bool → ℕ
initial_of initial p q = placed_of (start_of initial p q) (go_of initial p q) (limit_of initial)

-- r is x where b holds, else y
pub record Chosen (b : Bool) (x y r : ℕ) : Type 0 where
  pub is : r ≡ cond b x y

-- r is the value v and its side
pub record Placed (v : ℕ) (go : Bool) (limit r : ℕ) : Type 0 where
  pub is : r ≡ placed_of v go limit
  pub low : r < sided

-- r is the value and the side that an initial gives for two marks
abbrev pub Initially : Initial → Bool → Bool → ℕ → Type 0
Initially initial p q r = Placed (start_of initial p q) (go_of initial p q) (limit_of initial) r

-- the one of four for two marks
unfoldable pub one_of : Four → Bool → Bool → ℕ
one_of four p q = cond p (cond q four.both four.first) (cond q four.second four.neither)

-- the four have what an initial gives, whatever the marks
pub record Foreseen (initial : Initial) (four : Four) : Type 0 where
  pub each : (p q : Bool) → Initially initial p q (one_of four p q)
