-- What is looked for, as numbers, and the quest that it stands for.
use Rattle.std.specs.Prelude.{Bool, true, false, cond, ◌&&◌, ◌||◌, not as neg, ℕ, ◌-◌, ◌≤◌}
use Rattle.tctl.specs.Chart.{Arrow}
use Rattle.model.specs.Engine.{gain}
use Rattle.shown.specs.Steps.{Quest, longest_of}
use Rattle.step_numbers.specs.declared.Measure.{Measure}
use Rattle.step_numbers.specs.declared.Measure.TheVariants.{Least, Greatest}
use Rattle.step_numbers.specs.declared.Target.{Target}

-- the highest number that is asked for: 2 above the highest c
abbrev pub highest : ℕ
highest = 65537

-- whether it goes on from a state with these marks: of an A-until, while it waits
abbrev pub go_of : Bool → Bool → Bool → Bool
go_of true p q = p && neg q
go_of false p q = p

-- the number of a last state with these marks
abbrev pub base_of : Bool → ℕ → Bool → Bool → ℕ
base_of true full p q = cond (p || q) 1 full
base_of false full p q = cond q full 0

-- what an arrow makes of the number of its end
abbrev pub worth_of : Measure → Arrow → ℕ → ℕ
worth_of Least a v = v - a.fewest
worth_of (Greatest cap) a v = gain cap a.most v

-- the minutes that an arrow is taken in
abbrev pub pick_of : Measure → Arrow → ℕ
pick_of Least a = a.fewest
pick_of (Greatest cap) a = longest_of cap a.fewest a.most

-- the quest
abbrev pub quest_for : Target → (ℕ → Bool) → (ℕ → Bool) → Quest
quest_for target p q =
    record {
      go = λ s. go_of target.all (p s) (q s);
      base = λ s. base_of target.all target.full (p s) (q s);
      worth = λ a v. worth_of target.measure a v;
      pick = λ a. pick_of target.measure a;
      need = target.need;
    }

-- a cap of 1 at least, and no higher than is asked for
pub data Capped : Measure → Type 0 where
  least : Capped Least
  greatest : {cap : ℕ} → 1 ≤ cap → cap ≤ highest → Capped (Greatest cap)

-- numbers of 1 at least are enough, and none is higher than is asked for
pub record Fair (target : Target) : Type 0 where
  pub capped : Capped target.measure
  pub full : target.full ≤ highest
  pub some : 1 ≤ target.need
  pub need : target.need ≤ highest
