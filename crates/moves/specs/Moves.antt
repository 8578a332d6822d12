-- Arrows as words, and which of them are collected.
use Rattle.std.specs.Prelude.{◌≡◌, ◌⊎◌, Bool, true, ◌&&◌, not as neg, List, ℕ, suc, ◌≤◌, ◌<◌, ◌/◌, ◌%◌, min, length, get_or, set}
use Rattle.tctl.specs.Chart.{Arrow, Most, up_to, no_end}
use Rattle.model.specs.Marks.{flag}
use Rattle.chart.specs.Bytes.{arrow_count, arrow_words, arrow_of}
use Rattle.chart.specs.Shape.{Passed}
use Rattle.moves.specs.declared.Ends.{Ends}
use Rattle.moves.specs.declared.Move.{Move}

-- the most of a slot, up to 256: no row is higher
abbrev pub capped_most : Most → ℕ
capped_most (up_to g) = min 256 g
capped_most no_end = 256

-- the arrow with its minutes up to 256
abbrev pub capped : Arrow → Arrow
capped a =
    record { start = a.start; end = a.end; fewest = min 256 a.fewest; most = up_to (capped_most a.most) }

-- what a word says: from below start and end of 8 bits, fewest and most of 9
abbrev pub move_of : ℕ → Arrow
move_of word =
    record {
      start = word % 256;
      end = word / 256 % 256;
      fewest = word / 65536 % 512;
      most = up_to (word / 33554432 % 512);
    }

-- a move as numbers
abbrev pub arrow_by : Move → Arrow
arrow_by w = record { start = w.start; end = w.end; fewest = w.fewest; most = up_to w.most }

-- an until is open at a state with the marks p and q: q is asked for only where the bound is met
abbrev pub is_open : Bool → Bool → Bool → Bool
is_open met p q = p && neg (met && q)

-- it is open at s, by the rows of the operands
abbrev pub open_in : Bool → List ℕ → List ℕ → ℕ → Bool
open_in met p q s = is_open met (flag p s) (flag q s)

-- the arrow was added: in front if it can take no minute, else at the back
pub record WithArrow (a : Arrow) (before after : Ends) (old new : List ℕ) : Type 0 where
  pub place : ℕ
  pub word : ℕ
  pub is : move_of word ≡ capped a
  pub written : new ≡ set old place word
  pub end :
      ((a.fewest ≡ 0) × (place ≡ before.front) × (after.front ≡ suc place) × (after.back ≡ before.back)) ⊎
      ((1 ≤ a.fewest) × (suc place ≡ before.back) × (after.front ≡ before.front) × (after.back ≡ place))

-- the chart passes checks 1 to 9, the rows have n marks each, and there is a word for every arrow
pub record Collectable (chart : List ℕ) (n m : ℕ) (p q words : List ℕ) : Type 0 where
  pub passed : Passed chart n m
  pub first : length p ≡ n
  pub second : length q ≡ n
  pub room : length words ≡ 2048

-- word i is in front, where those that can take no minute stand, or at the back
abbrev pub HasWord : Ends → ℕ → Type 0
HasWord ends i = (i < ends.front) ⊎ ((ends.back ≤ i) × (i < 2048))

-- the words are those of the chart's arrows whose numbers `taken` says yes of, and those that can take no minute are in
-- front
pub record CollectedBy (chart : List ℕ) (taken : ℕ → Bool) (ends : Ends) (words : List ℕ) : Type 0 where
  pub front : ends.front ≤ ends.back
  pub back : ends.back ≤ 2048
  pub some :
      (i : ℕ) → HasWord ends i →
      (j : ℕ) × (j < arrow_count chart) × (taken j ≡ true) ×
      (move_of (get_or words i 0) ≡ capped (arrow_of (arrow_words chart j)))
  pub instant :
      (j : ℕ) → j < arrow_count chart → taken j ≡ true → (arrow_words chart j).fewest ≡ 0 →
      (i : ℕ) × (i < ends.front) × (move_of (get_or words i 0) ≡ capped (arrow_of (arrow_words chart j)))
  pub later :
      (j : ℕ) → j < arrow_count chart → taken j ≡ true → 1 ≤ (arrow_words chart j).fewest →
      (i : ℕ) × (ends.back ≤ i) × (i < 2048) × (move_of (get_or words i 0) ≡ capped (arrow_of (arrow_words chart j)))

-- they are those of the arrows from states of which `goes` says yes
abbrev pub Collected : List ℕ → (ℕ → Bool) → Ends → List ℕ → Type 0
Collected chart goes ends words = CollectedBy chart (λ j. goes (arrow_words chart j).start) ends words
