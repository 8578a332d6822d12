-- What a row of marks is filled with, state by state.
use Rattle.std.specs.Prelude.{Bool, true, false, ◌&&◌, ◌||◌, not as neg, ℕ, ltb, leb}
use Rattle.fill.specs.declared.Connective.{Connective}
use Rattle.fill.specs.declared.Connective.TheVariants.{Yes, No, Not, And, Or}

-- a mark from those of two operands
abbrev pub combine : Connective → Bool → Bool → Bool
combine Yes p q = true
combine No p q = false
combine Not p q = neg p
combine And p q = p && q
combine Or p q = p || q

-- a mark from a value: above the limit, or up to it
abbrev pub passes_limit : Bool → ℕ → ℕ → Bool
passes_limit true limit v = ltb limit v
passes_limit false limit v = leb v limit
