-- The parts of a node's text, by the node's bytes. The quoted words are of 02, paper 5.
use Rattle.std.specs.Prelude.{cond, List, [], ◌∷◌, ◌++◌, ℕ, eqb, ltb}
use Rattle.decimal.specs.Decimal.{decimal}
use Rattle.rule.specs.Formula.{bound_of}
use Rattle.rule_grammar.specs.Text.{until_sign}

-- "`true`, `L0` to `L15`"
unfoldable pub leaf_text : ℕ → ℕ → List ℕ
leaf_text operation a = cond (eqb operation 0) (116 ∷ 114 ∷ 117 ∷ 101 ∷ []) (76 ∷ decimal a)

-- what stands before f in "`!f`, `(f & g)`, `(f | g)`, `E(f U<=c g)`, `A(f U>=c g)`"
unfoldable pub opening_text : ℕ → List ℕ
opening_text operation =
    cond (ltb operation 5) (cond (eqb operation 2) 33 40 ∷ []) (cond (eqb operation 5) 69 65 ∷ 40 ∷ [])

-- the first byte of <=, >= or ==, by the kind of the bound
abbrev pub kind_byte : ℕ → ℕ
kind_byte kind = cond (eqb kind 1) 60 (cond (eqb kind 2) 62 61)

-- "&, | and U with its bound"
unfoldable pub sign_text : ℕ → ℕ → ℕ → List ℕ
sign_text operation kind c = cond (ltb 4 operation) (until_sign (bound_of kind c)) (cond (eqb operation 3) 38 124 ∷ [])

-- what stands between two operands: the sign, and "one space on each side"
unfoldable pub between_text : ℕ → ℕ → ℕ → List ℕ
between_text operation kind c = 32 ∷ [] ++ sign_text operation kind c ++ 32 ∷ []
