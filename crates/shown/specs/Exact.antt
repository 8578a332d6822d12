-- Exact minutes, by steps: of the ways of k steps one takes minutes that another does not, and none of them is the best.
-- So for "exactly c" (02, paper 7) each number of minutes left has its own answer.
use Rattle.std.specs.Prelude.{◌≡◌, Bool, true, ◌&&◌, ℕ, zero, suc, ◌-◌, ◌≤◌, leb, eqb}
use mathlib.Core.List.{List, [], ◌∷◌, Memᴰ}
use Rattle.std.proofs.Math.Option.{Option, none, some}
use Rattle.outcome.specs.Refusal.{found, lowest}
use Rattle.tctl.specs.Chart.{Arrow, Most, up_to, no_end, Within}
use Rattle.minutes.specs.Table.{any}
use Rattle.shown.specs.Shown.{Position, place}
use Rattle.shown.specs.Steps.{first_arrow}

-- d is in the arrow's slot, and no more than m
pub record Takes (a : Arrow) (m d : ℕ) : Type 0 where
  pub inside : d ≤ m
  pub least : a.fewest ≤ d
  pub greatest : Within d a.most

-- the arrow leaves s, and d minutes of it lead to where f says yes
pub record Serves (f : ℕ → ℕ → Bool) (m s : ℕ) (a : Arrow) (d : ℕ) : Type 0 where
  pub leaves : a.start ≡ s
  pub takes : Takes a m d
  pub there : f (m - d) a.end ≡ true

-- an arrow from s leads on
pub record Onward (arrows : List Arrow) (f : ℕ → ℕ → Bool) (m s : ℕ) : Type 0 where
  pub arrow : Arrow
  pub drawn : Memᴰ arrow arrows
  pub minutes : ℕ
  pub serves : Serves f m s arrow minutes

-- ── As tests ──

-- d minutes are not above the most
abbrev pub within : ℕ → Most → Bool
within d (up_to g) = leb d g
within d no_end = true

-- d is in the arrow's slot, and of what it leaves of m minutes f says yes at the arrow's end
abbrev pub suits : (ℕ → ℕ → Bool) → ℕ → Arrow → ℕ → Bool
suits f m a d = leb a.fewest d && (within d a.most && f (m - d) a.end)

-- the first such duration, of at most m minutes
abbrev pub first_minutes : (ℕ → ℕ → Bool) → ℕ → Arrow → Option ℕ
first_minutes f m a = lowest (suits f m a) (suc m)

-- the arrow leaves s and has one
abbrev pub serves : (ℕ → ℕ → Bool) → ℕ → ℕ → Arrow → Bool
serves f m s a = eqb a.start s && found (first_minutes f m a)

-- a path of exactly k steps and m minutes from s, through p, to q
unfoldable pub reaches : List Arrow → (ℕ → Bool) → (ℕ → Bool) → ℕ → ℕ → ℕ → Bool
reaches arrows p q zero m s = eqb m 0 && q s
reaches arrows p q (suc k) m s = p s && any (serves (reaches arrows p q k) m s) arrows

-- the number found, or v
abbrev pub or_number : ℕ → Option ℕ → ℕ
or_number v none = v
or_number v (some i) = i

-- k steps and m minutes from s: each by the first arrow that serves, in the first of its minutes, where f says yes of
-- the steps, the minutes and the state that are left
unfoldable pub walk_down : List Arrow → (ℕ → ℕ → ℕ → Bool) → ℕ → ℕ → ℕ → List Position
walk_down arrows f zero m s = place s 0 ∷ []
walk_down arrows f (suc k) m s =
    let a = first_arrow (serves (f k) m s) arrows in
    let d = or_number 0 (first_minutes (f k) m a) in
    place s d ∷ walk_down arrows f k (m - d) a.end

-- ── As numbers ──

-- the fewest steps, at most 256, of a path of m minutes from s; 257 if there is none
unfoldable pub steps_left : List Arrow → (ℕ → Bool) → (ℕ → Bool) → ℕ → ℕ → ℕ
steps_left arrows p q m s = or_number 257 (lowest (λ k. reaches arrows p q k m s) 257)

-- k steps are left, by a number for each minute and state
abbrev pub by_numbers : (ℕ → ℕ → ℕ) → ℕ → ℕ → ℕ → Bool
by_numbers x k m s = eqb (x m s) k
