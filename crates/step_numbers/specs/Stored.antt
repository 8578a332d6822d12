-- How numbers are stored. Greatest minutes stand above `live`, so that the sum with an arrow's weight tells whether there
-- is a way at all, and an arrow takes an addition and a comparison; what is asked of a sum is asked once a state.
use Rattle.std.specs.Prelude.{cond, ℕ, zero, suc, ◌+◌, ◌-◌, min, leb}
use Rattle.tctl.specs.Chart.{Arrow, Most, up_to, no_end}
use Rattle.step_numbers.specs.declared.Measure.{Measure}
use Rattle.step_numbers.specs.declared.Measure.TheVariants.{Least, Greatest}

-- above every weight
abbrev pub live : ℕ
live = 262144

-- a number of 1 at least, above it
abbrev pub raised_of : ℕ → ℕ
raised_of zero = 0
raised_of (suc v) = live + suc v

-- a number as it is stored
abbrev pub stored_of : Measure → ℕ → ℕ
stored_of Least v = v
stored_of (Greatest cap) v = raised_of v

-- what the most adds; no end as much as the highest number that is asked for
abbrev pub heft : Most → ℕ
heft (up_to m) = m
heft no_end = 65537

-- what an arrow adds: of least minutes what the fewest leave of 65,535
abbrev pub weight_of : Measure → Arrow → ℕ
weight_of Least a = 65535 - a.fewest
weight_of (Greatest cap) a = heft a.most

-- a stored number, up to the cap
abbrev pub capped_of : ℕ → ℕ → ℕ
capped_of cap v = cond (leb v live) 0 (min (live + cap) v)

-- the number that a sum stands for, as it is stored: the 65,535 are taken off again, or it is cut at the cap
abbrev pub settled_of : Measure → ℕ → ℕ
settled_of Least v = v - 65535
settled_of (Greatest cap) v = capped_of cap v
