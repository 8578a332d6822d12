-- Inside a row: numbers are lowered arrow by arrow.
use Rattle.std.specs.Prelude.{◌≡◌, ◌⊎◌, Bool, true, false, cond, ◌&&◌, List, ℕ, suc, ◌+◌, ◌-◌, ◌*◌, ◌≤◌, ◌<◌, length, set, eqb, ltb}
use Rattle.base.specs.Sum.{total}
use Rattle.tctl.specs.Chart.{Arrow}
use Rattle.model.specs.Engine.{num}
use Rattle.model.specs.Marks.{flag}
use Rattle.shown.specs.Exact.{Takes}
use Rattle.moves.specs.Moves.{move_of}
use Rattle.exact_table.specs.Rows.{left_in}

-- the numbers that a row begins with: no step where a path can end, else none was found
abbrev pub row_begun : ℕ → List ℕ → ℕ → ℕ
row_begun minute q s = cond (eqb minute 0 && flag q s) 0 257

-- r is the least number that the arrow leads to in at most `longest` minutes, up to 257
pub record LeastAfter (n longest minute : ℕ) (a : Arrow) (table : List ℕ) (r : ℕ) : Type 0 where
  pub low : r ≤ 257
  pub least : (d : ℕ) → Takes a longest d → r ≤ left_in n table (minute - d) a.end
  pub some : r < 257 → (d : ℕ) × Takes a longest d × (left_in n table (minute - d) a.end ≡ r)

-- the arrow was tried: its start has a step more than that from now on, if it had a higher number
pub record Lowered (n longest minute : ℕ) (a : Arrow) (r : Bool) (old new : List ℕ) : Type 0 where
  pub steps : ℕ
  pub after : LeastAfter n longest minute a old steps
  pub told : r ≡ ltb (suc steps) (left_in n old minute a.start)
  pub is : new ≡ cond r (set old (minute * n + a.start) (suc steps)) old

-- the arrow, taken in d minutes, does not lower the number of its start
abbrev pub Level : ℕ → ℕ → List ℕ → Arrow → ℕ → Type 0
Level n minute table a d = left_in n table minute a.start ≤ suc (left_in n table (minute - d) a.end)

-- which numbers of steps and minutes there is a way of, from which states
abbrev pub Ways : Type 0
Ways = ℕ → ℕ → ℕ → Bool

-- an arrow of the words before a way is a way of a step more
abbrev pub Extends : Ways → ℕ → ℕ → ℕ → List ℕ → Type 0
Extends way minute from to words =
    (i : ℕ) → from ≤ i → i < to → (k d : ℕ) → let a = move_of (num words i) in
    Takes a minute d → way k (minute - d) a.end ≡ true → way (suc k) minute a.start ≡ true

-- the numbers below 257 are the steps of ways
abbrev pub Sound : Ways → ℕ → ℕ → List ℕ → Type 0
Sound way n minute table =
    (m s : ℕ) → m ≤ minute → s < n → left_in n table m s < 257 → way (left_in n table m s) m s ≡ true

-- what trying arrows leaves: other rows stay, no number of this one rises, and the numbers stay steps of ways
pub record Kept (n minute from to : ℕ) (words old new : List ℕ) : Type 0 where
  pub size : length new ≡ length old
  pub elsewhere : (j : ℕ) → (j < minute * n) ⊎ (minute * n + n ≤ j) → num new j ≡ num old j
  pub falls : (s : ℕ) → s < n → left_in n new minute s ≤ left_in n old minute s
  pub sound : (way : Ways) → Extends way minute from to words → Sound way n minute old → Sound way n minute new

-- the arrows of some words were tried: if nothing was lowered all are level, and what takes a minute is in any case
pub record Swept (n longest minute from to : ℕ) (words : List ℕ) (r : Bool) (old new : List ℕ) : Type 0 where
  pub kept : Kept n minute from to words old new
  pub tried :
      (i d : ℕ) → from ≤ i → i < to → Takes (move_of (num words i)) longest d → (r ≡ false) ⊎ (1 ≤ d) →
      Level n minute new (move_of (num words i)) d
  pub same : r ≡ false → new ≡ old
  pub less : r ≡ true → total (λ v. v) new < total (λ v. v) old

-- they were tried in no minute until nothing was lowered
pub record Closed (n minute front : ℕ) (words old new : List ℕ) : Type 0 where
  pub kept : Kept n minute 0 front words old new
  pub tried : (i d : ℕ) → i < front → Takes (move_of (num words i)) 0 d → Level n minute new (move_of (num words i)) d
