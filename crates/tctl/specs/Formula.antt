-- Rules as formulas: a constructor for each operation of 01, "Bytes of a chart, a rule and a map".
use Rattle.std.specs.Prelude.{◌≡◌, ℕ, ◌≤◌}

-- "at most c" and "at least c"; 02, paper 7: "exactly c"
pub data Bound : Type 0 where
  at_most at_least exactly : ℕ → Bound

-- "0 true; 1 label a; 2 not a; 3 a and b; 4 a or b; 5 E(a until b); 6 A(a until b)"
pub data Formula : Type 0 where
  always : Formula
  label : ℕ → Formula
  not : Formula → Formula
  and or : Formula → Formula → Formula
  some_until all_until : Bound → Formula → Formula → Formula

-- a moment that "meets the bound"; for "exactly c" 01's meaning "with an equal moment" (02, paper 7)
abbrev pub Meets : Bound → ℕ → Type 0
Meets (at_most c) m = m ≤ c
Meets (at_least c) m = c ≤ m
Meets (exactly c) m = m ≡ c
