-- Arrows are collected state by state, those of a state by their numbers.
use Rattle.std.specs.Prelude.{◌≡◌, Bool, true, ◌&&◌, cond, List, ℕ, ◌+◌, ◌*◌, ◌≤◌, length, ltb}
use Rattle.base.specs.Sum.{sum}
use Rattle.chart.specs.Bytes.{arrow_count, arrow_words}
use Rattle.moves.specs.declared.Ends.{Ends}
use Rattle.moves.specs.Moves.{CollectedBy}

-- the turn of arrow i if it is from s; no chart has more than 2048 arrows
abbrev pub turn_of : ℕ → ℕ → ℕ
turn_of s i = 2048 * s + i

-- the arrows with turns below k, from states of which `goes` says yes
abbrev pub taken : List ℕ → (ℕ → Bool) → ℕ → ℕ → Bool
taken chart goes k j = let s = (arrow_words chart j).start in goes s && ltb (turn_of s j) k

-- some arrows are collected, and took a word each at most
pub record Collecting (chart : List ℕ) (taken : ℕ → Bool) (ends : Ends) (words : List ℕ) : Type 0 where
  pub size : length words ≡ 2048
  pub few : ends.front + 2048 ≤ ends.back + sum (λ j. cond (taken j) 1 0) (arrow_count chart)
  pub are : CollectedBy chart taken ends words

-- of the arrows from states below s those are collected that are from states of which `goes` says yes
abbrev pub Before : List ℕ → (ℕ → Bool) → ℕ → Ends → List ℕ → Type 0
Before chart goes s ends words = Collecting chart (taken chart goes (turn_of s 0)) ends words

-- the same, for some test that says yes of s: there is room for the arrows from s
pub record Ready (chart : List ℕ) (s : ℕ) (ends : Ends) (words : List ℕ) : Type 0 where
  pub goes : ℕ → Bool
  pub says : goes s ≡ true
  pub are : Before chart goes s ends words

-- the arrows from s were added, for every test that says yes of s
abbrev pub WithState : List ℕ → ℕ → Ends → Ends → List ℕ → List ℕ → Type 0
WithState chart s before after old new =
    (goes : ℕ → Bool) → goes s ≡ true → Before chart goes s before old → Before chart goes (s + 1) after new
