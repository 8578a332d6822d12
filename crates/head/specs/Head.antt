-- The head that charts, rules and maps share. The quoted sentences are of 01, "Bytes of a chart, a rule and a map".
use Rattle.std.specs.Prelude.{◌≡◌, not, List, [], ◌∷◌, ℕ, ◌+◌, ◌≤◌, length, get_or, eqb, ltb}
use Rattle.words.specs.Word.{long}
use Rattle.outcome.specs.Refusal.{Row, refuse, whole}

-- "Byte 0 is the version, 1."
abbrev pub version : List ℕ → ℕ
version s = get_or s 0 0

-- "Bytes 1 to 4 give the length of the whole, these five bytes included."
abbrev pub stated_length : List ℕ → ℕ
stated_length s = long s 1

-- under `least` bytes; version not 1; stated length not the real one; each by its number
abbrev pub faults_rows : (short versioned stated least : ℕ) → List ℕ → List Row
faults_rows short versioned stated least s =
    refuse short (whole (ltb (length s) least)) ∷
    refuse versioned (whole (not (eqb (version s) 1))) ∷
    refuse stated (whole (not (eqb (stated_length s) (length s)))) ∷
    []

-- the three rows of a paper's table, from a number on
abbrev pub head_rows : ℕ → ℕ → List ℕ → List Row
head_rows number least s = faults_rows number (number + 1) (number + 2) least s

-- a head of which none of these is true
pub record Headed (least : ℕ) (s : List ℕ) : Type 0 where
  pub enough : least ≤ length s
  pub version_one : version s ≡ 1
  pub stated : stated_length s ≡ length s
