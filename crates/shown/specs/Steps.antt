-- The table by steps: for each number of steps k and state s the best worth of the ways of exactly k steps from s, and
-- the walk down the table. A worth of 0 says that there is no such way.
use Rattle.std.specs.Prelude.{Bool, cond, ◌&&◌, List, [], ◌∷◌, ℕ, zero, suc, ◌-◌, max, leb, eqb}
use Rattle.tctl.specs.Chart.{Arrow, Most, up_to, no_end}
use Rattle.model.specs.Engine.{gain}
use Rattle.model.specs.Decide.{waiting, failing}
use Rattle.shown.specs.Shown.{Position, place}

-- what is looked for: the states it may go on from, the worth of the last state, the worth of an arrow before a way of
-- the worth v, the minutes that arrow is taken in, and the worth that is enough
pub record Quest : Type 0 where
  pub go : ℕ → Bool
  pub base : ℕ → ℕ
  pub worth : Arrow → ℕ → ℕ
  pub pick : Arrow → ℕ
  pub need : ℕ

-- the least minutes, up to c: the worth is one more than the minutes that are left of c
abbrev pub quickest : ℕ → (ℕ → Bool) → (ℕ → Bool) → Quest
quickest c p q =
    record {
      go = p;
      base = λ s. cond (q s) (suc c) 0;
      worth = λ a v. v - a.fewest;
      pick = λ a. a.fewest;
      need = 1;
    }

-- the arrow's most minutes; with no end as many as the cap
abbrev pub longest_of : ℕ → ℕ → Most → ℕ
longest_of cap fewest (up_to m) = m
longest_of cap fewest no_end = max cap fewest

-- the greatest minutes, with the base of the last state, up to the cap
abbrev pub slowest : ℕ → (ℕ → Bool) → (ℕ → ℕ) → Quest
slowest cap go base =
    record {
      go = go;
      base = base;
      worth = λ a v. gain cap a.most v;
      pick = λ a. longest_of cap a.fewest a.most;
      need = cap;
    }

-- for an E-until, at least c
abbrev pub lasting : ℕ → (ℕ → Bool) → (ℕ → Bool) → Quest
lasting c p q = slowest (suc c) p (λ s. cond (q s) 1 0)

-- for an A-until, at most c: it waits, for more than c minutes or until it fails
abbrev pub all_quest : ℕ → (ℕ → Bool) → (ℕ → Bool) → Quest
all_quest c p q = slowest (suc (suc c)) (waiting p q) (failing (suc (suc c)) p q)

-- the greatest of what f says of the arrows
unfoldable pub best : (Arrow → ℕ) → List Arrow → ℕ
best f [] = 0
best f (a ∷ arrows) = max (f a) (best f arrows)

-- the best worth of a way of k steps from s
unfoldable pub by_step : List Arrow → Quest → ℕ → ℕ → ℕ
by_step arrows z zero s = z.base s
by_step arrows z (suc k) s =
    cond (z.go s) (best (λ a. cond (eqb a.start s) (z.worth a (by_step arrows z k a.end)) 0) arrows) 0

-- the first arrow of which f says yes
unfoldable pub first_arrow : (Arrow → Bool) → List Arrow → Arrow
first_arrow f [] = record { start = 0; end = 0; fewest = 0; most = up_to 0 }
first_arrow f (a ∷ arrows) = cond (f a) a (first_arrow f arrows)

-- the arrow leaves s, and with a way of k steps after it has the best worth of suc k steps
abbrev pub is_best : List Arrow → Quest → ℕ → ℕ → Arrow → Bool
is_best arrows z k s a =
    eqb a.start s && eqb (z.worth a (by_step arrows z k a.end)) (by_step arrows z (suc k) s)

-- the walk down the table: k steps from s, each by a best arrow
unfoldable pub walk : List Arrow → Quest → ℕ → ℕ → List Position
walk arrows z zero s = place s 0 ∷ []
walk arrows z (suc k) s =
    let a = first_arrow (is_best arrows z k s) arrows in
    place s (z.pick a) ∷ walk arrows z k a.end

-- k steps from s are enough
abbrev pub enough : List Arrow → Quest → ℕ → ℕ → Bool
enough arrows z s k = leb z.need (by_step arrows z k s)
