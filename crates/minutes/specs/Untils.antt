-- The untils by minutes: what an E-until asks is to meet it, what an A-until asks is to fail it. One definition for every
-- bound; a bound has what is left of it at first, when it is met, and what is beyond it.
use Rattle.std.specs.Prelude.{Bool, true, false, cond, ◌&&◌, ◌||◌, not as neg, List, ℕ, zero, suc, eqb}
use Rattle.tctl.specs.Chart.{Arrow}
use Rattle.tctl.specs.Formula.{Bound, at_most, at_least, exactly}
use Rattle.minutes.specs.Makes.{Task}
use Rattle.minutes.specs.Table.{makes}

-- the row of the bound: at most c and exactly c have c minutes left at first, and are beyond after c; at least c is beyond
-- from c on, so that in row r there are r minutes still to wait
abbrev pub row_of : Bound → ℕ
row_of (at_most c) = suc c
row_of (at_least c) = c
row_of (exactly c) = suc c

-- with m minutes left the bound is met; exactly c is with none left
abbrev pub met_with : Bound → ℕ → Bool
met_with (at_most c) m = true
met_with (at_least c) m = false
met_with (exactly c) m = eqb m 0

-- with m minutes left the until is met at s
abbrev pub met_at : Bound → (ℕ → Bool) → ℕ → ℕ → Bool
met_at b q m s = met_with b m && q s

-- it is still open: p holds, and it is not met
abbrev pub open_at : Bound → (ℕ → Bool) → (ℕ → Bool) → ℕ → ℕ → Bool
open_at b p q m s = p s && neg (met_at b q m s)

-- to meet the until, or with `all` to fail it, where `beyond` answers beyond the bound
abbrev pub task_of : Bool → Bound → (ℕ → Bool) → (ℕ → Bool) → (ℕ → Bool) → Task
task_of all b p q beyond =
    record {
      now = λ m s. cond all (neg (p s || met_at b q m s)) (met_at b q m s);
      go = open_at b p q;
      beyond = beyond;
    }

-- The until with no bound, after k waits: each is a row with no minute left, where a step that takes time leads to what
-- was found before. To meet it no state is good at first, to fail it every one is; so the first is by reaching, the second
-- by waiting.
unfoldable pub plain : List Arrow → ℕ → Bool → (ℕ → Bool) → (ℕ → Bool) → ℕ → ℕ → Bool
plain arrows n all p q zero s = all
plain arrows n all p q (suc k) s = makes arrows n (task_of all (at_most 0) p q (plain arrows n all p q k)) 1 s

-- beyond the bound: at most c and exactly c can't be met; at least c is the until with no bound
abbrev pub beyond_of : List Arrow → ℕ → Bool → Bound → (ℕ → Bool) → (ℕ → Bool) → ℕ → Bool
beyond_of arrows n all (at_most c) p q s = all
beyond_of arrows n all (at_least c) p q s = plain arrows n all p q n s
beyond_of arrows n all (exactly c) p q s = all

-- some run from s meets the until, or with `all` fails it
abbrev pub finds : List Arrow → ℕ → Bool → Bound → (ℕ → Bool) → (ℕ → Bool) → ℕ → Bool
finds arrows n all b p q s = makes arrows n (task_of all b p q (beyond_of arrows n all b p q)) (row_of b) s

-- the until holds at s: some run meets it, or none fails it
abbrev pub counted : Bool → Bound → List Arrow → ℕ → (ℕ → Bool) → (ℕ → Bool) → ℕ → Bool
counted all b arrows n p q s = cond all (neg (finds arrows n all b p q s)) (finds arrows n all b p q s)
