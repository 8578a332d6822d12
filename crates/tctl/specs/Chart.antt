-- Charts. The quoted sentences are of 01, "Meaning of charts and rules".
use Rattle.std.specs.Prelude.{◌≡◌, List, ℕ, ◌≤◌, ◌/◌, ◌%◌, ◌^◌, length, get_or}

-- the most minutes of a slot: a number, or "no end"
pub data Most : Type 0 where
  up_to : ℕ → Most
  no_end : Most

-- "An arrow has a start, an end and a slot: the fewest and the most whole minutes."
pub record Arrow : Type 0 where
  pub start : ℕ
  pub end : ℕ
  pub fewest : ℕ
  pub most : Most

-- "A chart has states 0 to n−1, each with a set of 16 labels, and arrows": a label word for each state, and the arrows
pub record Chart : Type 0 where
  pub labels : List ℕ
  pub arrows : List Arrow

-- n
abbrev pub states : Chart → ℕ
states G = length G.labels

-- "label i being worth 2 to the power i": the state s has label i
abbrev pub Labelled : Chart → ℕ → ℕ → Type 0
Labelled G s i = get_or G.labels s 0 / 2 ^ i % 2 ≡ 1

-- d minutes are not above the most. "'No end' means every duration from the fewest up."
abbrev pub Within : ℕ → Most → Type 0
Within d (up_to m) = d ≤ m
Within d no_end = Unit {0}
