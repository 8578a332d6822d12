-- The table by minutes: a row of answers for each number of minutes left, after the row beyond. An arrow's slot is judged
-- by one number, whatever its width.
use Rattle.std.specs.Prelude.{Bool, false, cond, ◌&&◌, ◌||◌, List, [], ◌∷◌, ℕ, zero, suc, ◌-◌, ltb, eqb}
use Rattle.tctl.specs.Chart.{Arrow, Most, up_to, no_end}
use Rattle.minutes.specs.Makes.{Task, stops_at, goes_at}

-- the last of f 0, .., f (k - 1) that says yes, counted from 1; 0 if none does
unfoldable pub latest : (ℕ → Bool) → ℕ → ℕ
latest f zero = 0
latest f (suc k) = cond (f k) (suc k) (latest f k)

-- the row that the slot's most leads to, from row r
abbrev pub farthest : ℕ → Most → ℕ
farthest r (up_to g) = r - g
farthest r no_end = 0

-- From row r some duration of the arrow's slot leads on. The rows that it can lead to are those from `farthest` to what the
-- fewest leaves; the last up to there in which the end makes it must be among them.
abbrev pub leads_by : (ℕ → ℕ) → ℕ → Arrow → Bool
leads_by last r a = ltb (farthest r a.most) (last (suc (r - a.fewest)))

-- by the rows of which f says yes
abbrev pub leads : (ℕ → Bool) → ℕ → Arrow → Bool
leads f = leads_by (latest f)

-- f says yes of an arrow
unfoldable pub any : (Arrow → Bool) → List Arrow → Bool
any f [] = false
any f (a ∷ arrows) = f a || any f arrows

-- the rows below r, and `row` for r
abbrev pub add : ℕ → (ℕ → ℕ → Bool) → (ℕ → Bool) → ℕ → ℕ → Bool
add r old row i s = cond (ltb i r) (old i s) (row s)

-- an arrow leads on from s, by the rows x
abbrev pub onward : List Arrow → (ℕ → ℕ → Bool) → ℕ → ℕ → Bool
onward arrows x r s = any (λ a. eqb a.start s && leads (λ i. x i a.end) r a) arrows

-- row r after k rounds inside the minute: arrows that can take 0 minutes lead to the row itself
unfoldable pub reached : List Arrow → Task → (ℕ → ℕ → Bool) → ℕ → ℕ → ℕ → Bool
reached arrows w old r zero s = stops_at w r s
reached arrows w old r (suc k) s =
    reached arrows w old r k s || (goes_at w r s && onward arrows (add r old (reached arrows w old r k)) r s)

-- the rows below r, each after n rounds
unfoldable pub rows_below : List Arrow → ℕ → Task → ℕ → ℕ → ℕ → Bool
rows_below arrows n w zero = λ i s. false
rows_below arrows n w (suc r) = add r (rows_below arrows n w r) (reached arrows w (rows_below arrows n w r) r n)

-- in row r, s makes it
abbrev pub makes : List Arrow → ℕ → Task → ℕ → ℕ → Bool
makes arrows n w r s = rows_below arrows n w (suc r) r s
