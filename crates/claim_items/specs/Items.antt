-- The thirteen items of 01, "Two charts to try".
use Rattle.std.specs.Prelude.{List, [], ◌∷◌, ◌++◌, ℕ}
use Rattle.append.specs.BigEndian.{word_bytes}
use Rattle.claim_items.specs.Write.{arrow, chart, node, rule}

-- "Short: states 0, 1, 2 with labels 0, 1, 2; arrows 0→1 of 5 to 10, 1→2 of 0 to 4, 2→0 of 20 to no end."
abbrev pub short : List ℕ
short = chart 3 3 (word_bytes 1 ++ word_bytes 2 ++ word_bytes 4) (arrow 0 1 5 10 ++ arrow 1 2 0 4 ++ arrow 2 0 20 65535)

-- "Undo: Short with 1→0 of 1 to 1 added."
abbrev pub undo : List ℕ
undo = chart 3 4 (word_bytes 1 ++ word_bytes 2 ++ word_bytes 4) (arrow 0 1 5 10 ++ arrow 1 2 0 4 ++ arrow 2 0 20 65535 ++ arrow 1 0 1 1)

-- "One: a state without labels, arrow 0→0 of 1 to 1."
abbrev pub one : List ℕ
one = chart 1 1 (word_bytes 0) (arrow 0 0 1 1)

-- "5 E(a until b); 6 A(a until b)"; "Kind is 1 (at most c) or 2 (at least c)"; "Bound kind 3 is "exactly c"" (02, paper 7)
abbrev pub E : ℕ
E = 5

abbrev pub A : ℕ
A = 6

abbrev pub at_most : ℕ
at_most = 1

abbrev pub at_least : ℕ
at_least = 2

abbrev pub exactly : ℕ
exactly = 3

-- E or A (true until Lj, bound)
abbrev pub true_until : ℕ → ℕ → ℕ → ℕ → List ℕ
true_until until j bound c = rule 3 (node 0 0 0 0 0 ++ node 1 0 j 0 0 ++ node until bound 0 1 c)

-- E or A (not Lj until Lj, bound)
abbrev pub not_until : ℕ → ℕ → ℕ → ℕ → List ℕ
not_until until j bound c = rule 4 (node 1 0 j 0 0 ++ node 2 0 0 0 0 ++ node 1 0 j 0 0 ++ node until bound 1 2 c)

-- a chart, a rule, and the "marks of the last node, states in order"
pub record Item : Type 0 where
  pub chart : List ℕ
  pub rule : List ℕ
  pub marks : List ℕ

abbrev pub item : List ℕ → List ℕ → List ℕ → Item
item c r m = record { chart = c; rule = r; marks = m }

unfoldable pub items : List Item
items =
    -- 1. Short, E(true until L2, at most 5): 111. 2. At most 4: 011.
    item short (true_until E 2 at_most 5) (1 ∷ 1 ∷ 1 ∷ []) ∷
    item short (true_until E 2 at_most 4) (0 ∷ 1 ∷ 1 ∷ []) ∷
    -- 3. Short, A(true until L2, at most 14): 111. 4. At most 13: 011.
    item short (true_until A 2 at_most 14) (1 ∷ 1 ∷ 1 ∷ []) ∷
    item short (true_until A 2 at_most 13) (0 ∷ 1 ∷ 1 ∷ []) ∷
    -- 5. Undo, A(true until L2, at most 14): 001.
    item undo (true_until A 2 at_most 14) (0 ∷ 0 ∷ 1 ∷ []) ∷
    -- 6. Short, E(not L2 until L2, at least 14): 100. 7. At least 15: 000.
    item short (not_until E 2 at_least 14) (1 ∷ 0 ∷ 0 ∷ []) ∷
    item short (not_until E 2 at_least 15) (0 ∷ 0 ∷ 0 ∷ []) ∷
    -- 8. Undo, E(not L2 until L2, at least 15): 110.
    item undo (not_until E 2 at_least 15) (1 ∷ 1 ∷ 0 ∷ []) ∷
    -- 9. Short, A(not L2 until L2, at least 5): 100. 10. At least 6: 000.
    item short (not_until A 2 at_least 5) (1 ∷ 0 ∷ 0 ∷ []) ∷
    item short (not_until A 2 at_least 6) (0 ∷ 0 ∷ 0 ∷ []) ∷
    -- 11. One, E(true until L0, at least 0): 0.
    item one (true_until E 0 at_least 0) (0 ∷ []) ∷
    -- 12. One, E(true until not L0, at most 0): 1.
    item one (rule 4 (node 0 0 0 0 0 ++ node 1 0 0 0 0 ++ node 2 0 1 0 0 ++ node E at_most 0 2 0)) (1 ∷ []) ∷
    -- 13. One, E(true until true, at least 65,535): 1.
    item one (rule 3 (node 0 0 0 0 0 ++ node 0 0 0 0 0 ++ node E at_least 0 1 65535)) (1 ∷ []) ∷
    []
