-- What a walk shows: a position more than steps, states of the chart, and durations no longer than the slots and what is
-- needed, so that they fit into their bytes.
use mathlib.Core.Path.{◌≡◌, refl}
use mathlib.Core.Bool.{Bool}
use mathlib.Core.List.{List, Memᴰ}
use mathlib.Core.Option.{Option, none, some}
use Prim.Native.Nat.{ℕ, zero, suc, ◌-◌, ◌≤◌, ◌<◌}
use native.Mathlib.Omega.{arith}
use lib.ListN.{length}
use Rattle.outcome.proofs.Lowest.{some_lowest}
use Rattle.tctl.specs.Chart.{Chart, Arrow, Most, up_to, no_end, states}
use Rattle.tctl.proofs.Drawn.{Drawn}
use Rattle.shown.specs.Shown.{state_at, duration_at}
use Rattle.shown.specs.Steps.{Quest, longest_of, first_arrow, is_best, walk}
use Rattle.shown.specs.Exact.{suits, first_minutes, serves, reaches, or_number, walk_down}
use Rattle.shown.specs.Search.{Search, by_steps, by_minutes, walk_by}
use Rattle.shown.proofs.Best.{first_elim}
use Rattle.shown.proofs.Table.{walk_length}
use Rattle.shown.proofs.Exact.{length_down}

pub walk_by_length : (arrows : List Arrow) (z : Search) (k s : ℕ) → length (walk_by arrows z k s) ≡ suc k
walk_by_length arrows (by_steps z) k s = walk_length arrows z k s
walk_by_length arrows (by_minutes c p q) k s = length_down arrows (reaches arrows p q) k c s

-- ── States ──

module _ {G : Chart} (dr : Drawn G) where
  -- each arrow that is walked ends in one, and so does the arrow of an empty list
  ends_below : {s : ℕ} → s < states G → (g : Arrow → Bool) → (first_arrow g G.arrows).end < states G
  unfolding first_arrow
  ends_below low g = first_elim (λ a. a.end < states G) g G.arrows dr.ends (omega arith)

  quest_below : (z : Quest) (k : ℕ) {s : ℕ} → s < states G → (i : ℕ) → state_at (walk G.arrows z k s) i < states G
  unfolding walk
  quest_below z zero low zero = low
  quest_below z zero low (suc i) = omega arith
  quest_below z (suc k) low zero = low
  quest_below z (suc k) {s} low (suc i) = quest_below z k (ends_below low (is_best G.arrows z k s)) i

  down_below :
      (f : ℕ → ℕ → ℕ → Bool) (k m : ℕ) {s : ℕ} → s < states G → (i : ℕ) →
      state_at (walk_down G.arrows f k m s) i < states G
  unfolding walk_down
  down_below f zero m low zero = low
  down_below f zero m low (suc i) = omega arith
  down_below f (suc k) m low zero = low
  down_below f (suc k) m {s} low (suc i) = down_below f k _ (ends_below low (serves (f k) m s)) i

  pub walk_below :
      (z : Search) (k : ℕ) {s : ℕ} → s < states G → (i : ℕ) → state_at (walk_by G.arrows z k s) i < states G
  walk_below (by_steps z) k low i = quest_below z k low i
  walk_below (by_minutes c p q) k low i = down_below _ k c low i

-- ── Durations ──

-- the arrow's slot is of at most d minutes, but for one with no end
abbrev NoMore : ℕ → Most → Type 0
NoMore d (up_to m) = m ≤ d
NoMore d no_end = Unit {0}

abbrev pub SlotUpTo : ℕ → Arrow → Type 0
SlotUpTo d a = (a.fewest ≤ d) × NoMore d a.most

pub longest_brief : {d : ℕ} (cap f : ℕ) (m : Most) → cap ≤ d → f ≤ d → NoMore d m → longest_of cap f m ≤ d
longest_brief cap f (up_to m) h i j = j
longest_brief cap f no_end h i j = omega arith

-- a quest's walk, if none that it picks is longer
module _
    {arrows : List Arrow}
    (z : Quest)
    {d : ℕ}
    (slots : (a : Arrow) → Memᴰ a arrows → SlotUpTo d a)
    (picks : (a : Arrow) → SlotUpTo d a → z.pick a ≤ d) where
  pub walk_brief : (k s i : ℕ) → duration_at (walk arrows z k s) i ≤ d
  unfolding walk first_arrow
  walk_brief zero s zero = omega arith
  walk_brief zero s (suc i) = omega arith
  walk_brief (suc k) s zero =
      let g = is_best arrows z k s in
      picks (first_arrow g arrows) (first_elim (SlotUpTo d) g arrows slots (omega arith, omega arith))
  walk_brief (suc k) s (suc i) = walk_brief k (first_arrow (is_best arrows z k s) arrows).end i

-- a walk by minutes takes no more than are left
first_brief : (f : ℕ → ℕ → Bool) (m : ℕ) (a : Arrow) → or_number 0 (first_minutes f m a) ≤ m
first_brief f m a = turn (first_minutes f m a) refl
  where
    turn : (o : Option ℕ) → first_minutes f m a ≡ o → or_number 0 o ≤ m
    turn none e = omega arith
    turn (some d) e = omega (arith, (some_lowest (suits f m a) (suc m) d e).inside)

pub down_brief :
    (arrows : List Arrow) (f : ℕ → ℕ → ℕ → Bool) (k m s i : ℕ) → duration_at (walk_down arrows f k m s) i ≤ m
unfolding walk_down
down_brief arrows f zero m s zero = omega arith
down_brief arrows f zero m s (suc i) = omega arith
down_brief arrows f (suc k) m s zero = first_brief (f k) m (first_arrow (serves (f k) m s) arrows)
down_brief arrows f (suc k) m s (suc i) =
    let a = first_arrow (serves (f k) m s) arrows in
    let d = or_number 0 (first_minutes (f k) m a) in
    omega (arith, down_brief arrows f k (m - d) a.end i)
