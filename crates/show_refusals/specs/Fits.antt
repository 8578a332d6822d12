-- The room that show asks for: numbers of scratch, and bytes of the output. The quoted words are of 02, paper 1.
use Rattle.std.specs.Prelude.{Bool, true, List, ◌++◌, ℕ, suc, ◌*◌, drop, replicate, ltb}
use Rattle.std.proofs.Math.Option.{Option, none, some}

-- "Scratch is 257 × n numbers"
abbrev pub table_size : ℕ → ℕ
table_size n = 257 * n

-- scratch with these numbers "zero"
abbrev pub table_cleared : ℕ → List ℕ → List ℕ
table_cleared n scratch = replicate (table_size n) 0 ++ drop (table_size n) scratch

-- a run of so many steps does not fit: it has a position more, of 6 bytes each
abbrev pub unfit : ℕ → Option ℕ → Bool
unfit room none = true
unfit room (some k) = ltb room (6 * suc k)
