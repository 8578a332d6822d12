-- Rows 17 and 18: the room that is lent. The quoted words are of 01, "Refused with number and place" and "Calls", and of
-- 02, papers 2 and 7.
use Rattle.std.specs.Prelude.{Bool, cond, List, [], ◌∷◌, ℕ, ◌*◌, length, ltb}
use Rattle.outcome.specs.Refusal.{Row, refuse, whole}

-- "4n numbers": how many are asked for, and cleared, for n states
abbrev pub scratch_size : ℕ → ℕ
scratch_size n = 4 * n

-- the same where minutes are counted: "Scratch is 256 × n numbers"
abbrev pub minute_size : ℕ → ℕ
minute_size n = 256 * n

-- the one where minutes are counted, else the other
abbrev pub size_for : Bool → ℕ → ℕ
size_for minutely n = cond minutely (minute_size n) (scratch_size n)

-- rows 17 and 18, for n states and k nodes, of a call that asks for so many numbers
abbrev pub room_table : ℕ → ℕ → ℕ → List ℕ → List ℕ → List Row
room_table n k size marks scratch =
    -- marks table under k × n bytes
    refuse 17 (whole (ltb (length marks) (k * n))) ∷
    -- scratch under 4n numbers, or 256 × n: "18 by that size", "18 follows the size"
    refuse 18 (whole (ltb (length scratch) size)) ∷
    []
