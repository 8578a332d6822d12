-- The bytes of a quoted text.
use Rattle.std.specs.Prelude.{cond, List, [], ◌∷◌, ◌++◌, ℕ, ◌+◌, ◌/◌, ◌%◌, ltb}
use Prim.Native.Char.{code}
use Prim.Native.String.{String, [] as end, ◌∷◌ as ◌then◌}

-- UTF-8, of the characters below 2,048: one byte for those of ASCII, two for the others, as "×"
abbrev pub encoded : ℕ → List ℕ
encoded c = cond (ltb c 128) (c ∷ []) ((192 + c / 64) ∷ (128 + c % 64) ∷ [])

abbrev pub bytes : String → List ℕ
bytes end = []
bytes (c then text) = encoded (code c) ++ bytes text
