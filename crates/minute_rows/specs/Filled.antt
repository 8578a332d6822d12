-- Rows of the table by minutes that are filled one after another, and what the functions promise of them.
use Rattle.std.specs.Prelude.{◌≡◌, ◌⊎◌, Bool, true, false, cond, ◌&&◌, not as neg, ℕ, suc, ◌+◌, ◌*◌, ◌≤◌, ◌<◌, length, set}
use mathlib.Core.List.{List, Memᴰ}
use Rattle.tctl.specs.Chart.{Chart, Arrow, Within, states}
use Rattle.tctl.proofs.Drawn.{Drawn}
use Rattle.model.specs.Engine.{num}
use Rattle.model.specs.Marks.{flag}
use Rattle.chart.specs.Bytes.{arrow_count, chart_of}
use Rattle.chart.specs.Shape.{Passed}
use Rattle.minutes.specs.Makes.{Task, Makes, stops_at, goes_at}
use Rattle.minutes.specs.Table.{latest, leads_by, makes}
use Rattle.moves.specs.declared.Ends.{Ends}
use Rattle.moves.specs.Moves.{capped, move_of, open_in, Collected}
use Rattle.minute_rows.specs.declared.Asked.{Asked}
use Rattle.minute_rows.specs.Numbers.{last_below, answer, met_in, task_in, stops_by}

-- the rows of the first k numbers of minutes left are filled
pub record RowsFilled (G : Chart) (n : ℕ) (w : Task) (k : ℕ) (numbers : List ℕ) : Type 0 where
  pub last :
      (m s : ℕ) → m < k → s < n → num numbers (m * n + s) ≡ latest (λ r. makes G.arrows n w r s) (suc (suc m))

-- ── What is asked of what is lent ──

-- a state, the row beyond, and room for the row with so many minutes left
pub record InRow (n minute s : ℕ) (beyond numbers : List ℕ) : Type 0 where
  pub state : s < n
  pub wide : length beyond ≡ n
  pub room : minute * n + n ≤ length numbers

-- the rows of the operands, the row beyond, and room for that row
pub record Rows (n minute : ℕ) (p q beyond numbers : List ℕ) : Type 0 where
  pub first : length p ≡ n
  pub second : length q ≡ n
  pub wide : length beyond ≡ n
  pub room : minute * n + n ≤ length numbers
  pub few : minute < 256

-- an arrow between two states, with room for that row
pub record Word (n minute : ℕ) (a : Arrow) (beyond numbers : List ℕ) : Type 0 where
  pub start : a.start < n
  pub end : a.end < n
  pub slot : Within a.fewest a.most
  pub wide : length beyond ≡ n
  pub room : minute * n + n ≤ length numbers
  pub few : minute < 256

-- such are the arrows of some words
pub record Words (n minute from to : ℕ) (words beyond numbers : List ℕ) : Type 0 where
  pub order : from ≤ to
  pub inside : to ≤ length words
  pub arrows : (i : ℕ) → from ≤ i → i < to → Word n minute (move_of (num words i)) beyond numbers

-- a chart that passes checks 1 to 9, and room for so many rows
pub record Ready (count : ℕ) (chart : List ℕ) (n m : ℕ) (p q beyond numbers : List ℕ) : Type 0 where
  pub passed : Passed chart n m
  pub first : length p ≡ n
  pub second : length q ≡ n
  pub wide : length beyond ≡ n
  pub room : count * n ≤ length numbers
  pub some : 1 ≤ count
  pub few : count ≤ 256

-- the first rows are filled, and from there on the bound is met with each number of minutes left, or with none
pub record Steady
    (asked : Asked)
    (from count : ℕ)
    (chart : List ℕ)
    (n : ℕ)
    (p q beyond numbers : List ℕ) : Type 0 where
  pub order : from ≤ count
  pub same : (minute : ℕ) → from ≤ minute → minute < count → met_in asked from ≡ met_in asked minute
  pub filled : RowsFilled (chart_of chart) n (task_in asked p q beyond) from numbers

-- the rows with fewer minutes left are filled, and the arrows are collected
pub record MinuteReady
    (asked : Asked)
    (chart : List ℕ)
    (n minute : ℕ)
    (ends : Ends)
    (words p q beyond numbers : List ℕ) : Type 0 where
  pub passed : Passed chart n (arrow_count chart)
  pub rows : Rows n minute p q beyond numbers
  pub long : length words ≡ 2048
  pub collected : Collected chart (open_in (met_in asked minute) p q) ends words
  pub filled : RowsFilled (chart_of chart) n (task_in asked p q beyond) minute numbers

-- ── Inside a row ──

-- the numbers that a row begins with: made at once, or as below
abbrev pub row_begun : Bool → Bool → ℕ → ℕ → List ℕ → List ℕ → List ℕ → List ℕ → ℕ → ℕ
row_begun all met n minute p q beyond old s =
    cond (stops_by all met (flag p s) (flag q s)) (suc (suc minute)) (last_below n beyond old s (suc minute))

-- from the row with so many minutes left the arrow leads on, as the numbers say
abbrev pub leads_on : ℕ → ℕ → List ℕ → List ℕ → Arrow → Bool
leads_on n minute beyond numbers a = leads_by (last_below n beyond numbers a.end) (suc minute) a

-- s makes it in the row with so many minutes left
abbrev pub added : ℕ → ℕ → ℕ → List ℕ → List ℕ
added n minute s numbers = set numbers (minute * n + s) (suc (suc minute))

-- the arrow was followed: its start makes it from now on, if it leads on and its start did not make it
pub record Followed (n minute : ℕ) (a : Arrow) (beyond : List ℕ) (r : Bool) (old new : List ℕ) : Type 0 where
  pub told : r ≡ (neg (answer n beyond old (suc minute) a.start) && leads_on n minute beyond old a)
  pub is : new ≡ cond r (added n minute a.start old) old

-- the words are arrows of the chart, with their minutes up to 256, from where it may go on
abbrev pub FromChart : Chart → Task → ℕ → ℕ → ℕ → List ℕ → Type 0
FromChart G w minute from to words =
    (i : ℕ) → from ≤ i → i < to →
    (a : Arrow) × Memᴰ a G.arrows × (goes_at w (suc minute) a.start ≡ true) ×
    (move_of (num words i) ≡ capped a)

-- the numbers of the rows up to that one say of their own answers which is the last
abbrev pub Latest : ℕ → ℕ → List ℕ → List ℕ → Type 0
Latest n minute beyond numbers =
    (m s : ℕ) → m ≤ minute → s < n →
    num numbers (m * n + s) ≡ latest (λ r. answer n beyond numbers r s) (suc (suc m))

-- a row is being filled: the rows below are right, what it says is true, and it has what makes it at once
pub record Filling (G : Chart) (n : ℕ) (w : Task) (minute : ℕ) (beyond numbers : List ℕ) : Type 0 where
  pub last : Latest n minute beyond numbers
  pub right : (r s : ℕ) → r ≤ minute → s < n → answer n beyond numbers r s ≡ makes G.arrows n w r s
  pub sound : (s : ℕ) → s < n → answer n beyond numbers (suc minute) s ≡ true → Makes G w (suc minute) s
  pub begins : (s : ℕ) → s < n → stops_at w (suc minute) s ≡ true → answer n beyond numbers (suc minute) s ≡ true

-- what following arrows leaves: whatever is filled, it stays right, and what was made stays made
pub record Kept (n minute from to : ℕ) (words beyond old new : List ℕ) : Type 0 where
  pub size : length new ≡ length old
  pub elsewhere : (j : ℕ) → (j < minute * n) ⊎ (minute * n + n ≤ j) → num new j ≡ num old j
  pub stays :
      (s : ℕ) → s < n → answer n beyond old (suc minute) s ≡ true → answer n beyond new (suc minute) s ≡ true
  pub right :
      (G : Chart) (w : Task) → Drawn G → states G ≡ n → FromChart G w minute from to words →
      Filling G n w minute beyond old → Filling G n w minute beyond new

-- arrow i leads on only from where it is made
abbrev pub Tried : ℕ → ℕ → List ℕ → List ℕ → List ℕ → ℕ → Type 0
Tried n minute words beyond numbers i =
    let a = move_of (num words i) in
    leads_on n minute beyond numbers a ≡ true → answer n beyond numbers (suc minute) a.start ≡ true

-- a state makes it that did not
abbrev pub Grown : ℕ → ℕ → List ℕ → List ℕ → List ℕ → Type 0
Grown n minute beyond old new =
    (s : ℕ) × (s < n) × (answer n beyond old (suc minute) s ≡ false) × (answer n beyond new (suc minute) s ≡ true)

-- the arrows of some words were followed: if nothing is new all are tried, and those that take a minute in any case
pub record Swept (n minute from to : ℕ) (words beyond : List ℕ) (r : Bool) (old new : List ℕ) : Type 0 where
  pub kept : Kept n minute from to words beyond old new
  pub tried :
      (i : ℕ) → from ≤ i → i < to → (r ≡ false) ⊎ (1 ≤ (move_of (num words i)).fewest) →
      Tried n minute words beyond new i
  pub same : r ≡ false → new ≡ old
  pub more : r ≡ true → Grown n minute beyond old new

-- they were followed until nothing is new
pub record Closed (n minute front : ℕ) (words beyond old new : List ℕ) : Type 0 where
  pub kept : Kept n minute 0 front words beyond old new
  pub tried : (i : ℕ) → i < front → Tried n minute words beyond new i
