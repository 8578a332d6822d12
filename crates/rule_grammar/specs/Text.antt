-- The one text of a rule, as a list of bytes. The quoted words are of 02, paper 5.
use Rattle.std.specs.Prelude.{List, [], ◌∷◌, ◌++◌, ℕ}
use Rattle.decimal.specs.Decimal.{decimal}
use Rattle.tctl.specs.Formula.{Formula, Bound, at_most, at_least, exactly, always, label, not, and, or, some_until, all_until}

-- "U with its bound": `U<=c` or `U>=c`, "c without leading zeros"; "Text rules write `U==c`" (02, paper 7)
abbrev pub until_sign : Bound → List ℕ
until_sign (at_most c) = 85 ∷ 60 ∷ 61 ∷ decimal c
until_sign (at_least c) = 85 ∷ 62 ∷ 61 ∷ decimal c
until_sign (exactly c) = 85 ∷ 61 ∷ 61 ∷ decimal c

-- "one space on each side of &, | and U with its bound, none elsewhere": the opening, f, the sign, g and a bracket
abbrev pub operands : List ℕ → List ℕ → List ℕ → List ℕ → List ℕ
operands opening sign f g = opening ++ (f ++ (32 ∷ (sign ++ (32 ∷ (g ++ 41 ∷ [])))))

-- "`true`, `L0` to `L15`, `!f`, `(f & g)`, `(f | g)`, `E(f U<=c g)`, `A(f U>=c g)`, E and A with either sign"
unfoldable pub text : Formula → List ℕ
text always = 116 ∷ 114 ∷ 117 ∷ 101 ∷ []
text (label i) = 76 ∷ decimal i
text (not f) = 33 ∷ text f
text (and f g) = operands (40 ∷ []) (38 ∷ []) (text f) (text g)
text (or f g) = operands (40 ∷ []) (124 ∷ []) (text f) (text g)
text (some_until b f g) = operands (69 ∷ 40 ∷ []) (until_sign b) (text f) (text g)
text (all_until b f g) = operands (65 ∷ 40 ∷ []) (until_sign b) (text f) (text g)
