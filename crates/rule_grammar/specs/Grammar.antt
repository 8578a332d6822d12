-- Which texts are of the grammar, and where a text that is not stops being one. The quoted words are of 02, paper 5.
use Rattle.std.specs.Prelude.{◌≡◌, List, ◌++◌, ℕ, ◌≤◌, length, take}
use Rattle.tctl.specs.Formula.{Formula, Bound, at_most, at_least, exactly, always, label, not, and, or, some_until, all_until}
use Rattle.rule_grammar.specs.Text.{text}

-- "c .. up to 65,535"; of `U==c` "c above 255 there is refused with 64" (02, paper 7)
abbrev pub BoundInRange : Bound → Type 0
BoundInRange (at_most c) = c ≤ 65535
BoundInRange (at_least c) = c ≤ 65535
BoundInRange (exactly c) = c ≤ 255

-- "`L0` to `L15`"
abbrev pub InRange : Formula → Type 0
InRange always = Unit {0}
InRange (label i) = i ≤ 15
InRange (not f) = InRange f
InRange (and f g) = InRange f × InRange g
InRange (or f g) = InRange f × InRange g
InRange (some_until b f g) = BoundInRange b × InRange f × InRange g
InRange (all_until b f g) = BoundInRange b × InRange f × InRange g

-- the text of this formula, in range
pub record TextOf (t : List ℕ) (f : Formula) : Type 0 where
  pub range : InRange f
  pub same : text f ≡ t

-- "exactly this grammar's texts"
pub record OfGrammar (t : List ℕ) : Type 0 where
  pub formula : Formula
  pub text_of : TextOf t formula

-- some formula goes on from p
pub record Begins (p : List ℕ) : Type 0 where
  pub formula : Formula
  pub rest : List ℕ
  pub text_of : TextOf (p ++ rest) formula

-- "place the first byte that no formula could go on from, or the length if it only stops early": the length of the
-- longest prefix that begins a text of the grammar
pub record Place (t : List ℕ) (p : ℕ) : Type 0 where
  pub inside : p ≤ length t
  pub begins : Begins (take p t)
  pub longest : (q : ℕ) → q ≤ length t → Begins (take q t) → q ≤ p

-- "64 text not of the grammar"
pub record Fault (t : List ℕ) (p : ℕ) : Type 0 where
  pub not_of : ¬ OfGrammar t
  pub place : Place t p

-- what a text is: that of a formula, or one with a fault at a place
pub data Verdict : Type 0 where
  fault : ℕ → Verdict
  formula : Formula → Verdict

-- which of them it is
pub data Judged (t : List ℕ) : Verdict → Type 0 where
  faulty : {p : ℕ} → Fault t p → Judged t (fault p)
  whole : {f : Formula} → TextOf t f → Judged t (formula f)
