-- The last of so many rows: its numbers are above the count just where it is made.
use mathlib.Core.Path.{◌≡◌, sym, ap, ◌∙◌}
use mathlib.Core.Logic.{◌⊎◌, inl, inr}
use mathlib.Core.Bool.{Bool, true, false}
use mathlib.Core.Bool.{not as neg}
use mathlib.Core.List.{List}
use Prim.Native.Nat.{ℕ, suc, ◌+◌, ◌*◌, ◌-◌, ◌≤◌, ◌<◌}
use native.Mathlib.Omega.{arith}
use native.Mathlib.Nat.{mod-eq_of_lt}
use lib.ListN.{length}
use borrow.Author.Tests.{lt-ltb, le-ltb, lt-leb, le-leb}
use Rattle.base.proofs.Truth.{true_or_false}
use Rattle.tctl.specs.Chart.{Chart}
use Rattle.model.specs.Engine.{num}
use Rattle.model.proofs.Marks.{row_below}
use Rattle.base.proofs.Same.{Same}
use Rattle.chart.proofs.Reading.{shaped}
use Rattle.rule.specs.declared.NodeWords.{NodeWords}
use Rattle.hints.specs.Values.{value_of}
use Rattle.fill.specs.Fill.{passes_limit}
use Rattle.minutes.specs.Makes.{Task}
use Rattle.minutes.specs.Table.{latest, makes}
use Rattle.minutes.proofs.Latest.{latest_here, latest_not, latest_le}
use Rattle.minute_rows.specs.Filled.{RowsFilled}
use Rattle.until_minutes.specs.Minutes.{MinutesLent, mark_of}
use Rattle.until_minutes.proofs.Parts.{part, part_at}

-- ── Where the row lies ──

module _
    {chart : List ℕ}
    {n m t : ℕ}
    {w : NodeWords}
    {marks numbers : List ℕ}
    (l : MinutesLent chart n m t w marks numbers)
    {count : ℕ}
    (few : count ≤ 256) where
  pub last_inside : (count - 1) * n + n ≤ length numbers
  last_inside = omega (arith, row_below {a = count - 1} {t = 256} n (omega arith), l.room)

  -- so many rows of at most 256 states
  pub last_small : (count - 1) * n + n ≤ 65536
  last_small = omega (arith, row_below {a = count - 1} {t = 256} n (omega arith), (shaped l.passed).few_states)

-- ── What its numbers say ──

passes_above : (all : Bool) {limit v : ℕ} → limit < v → passes_limit (neg all) limit v ≡ mark_of all true
passes_above true h = lt-leb _ _ h
passes_above false h = lt-ltb _ _ h

passes_up_to : (all : Bool) {limit v : ℕ} → v ≤ limit → passes_limit (neg all) limit v ≡ mark_of all false
passes_up_to true h = le-leb _ _ h
passes_up_to false h = le-ltb _ _ h

-- The last of rows 0 to k that says yes, counted from 1, is k + 1 where row k does, and at most k where it does not. So
-- small a number is its own value.
pub latest_says :
    (all : Bool) (f : ℕ → Bool) (k : ℕ) → k ≤ 256 →
    passes_limit (neg all) k (value_of (latest f (suc k))) ≡ mark_of all (f k)
latest_says all f k few = ap (passes_limit (neg all) k) value ∙ turn (true_or_false (f k))
  where
    value : value_of (latest f (suc k)) ≡ latest f (suc k)
    value = mod-eq_of_lt (omega (arith, latest_le f (suc k)))

    turn : (f k ≡ true) ⊎ (f k ≡ false) → passes_limit (neg all) k (latest f (suc k)) ≡ mark_of all (f k)
    turn (inl e) = passes_above all (omega (arith, latest_here f k e)) ∙ ap (mark_of all) (sym e)
    turn (inr e) = passes_up_to all (omega (arith, latest_not f k e, latest_le f k)) ∙ ap (mark_of all) (sym e)

-- the last of filled rows, as it is lent
pub last_says :
    (all : Bool) {G : Chart} {n : ℕ} {w : Task} {count : ℕ} {numbers : List ℕ} → 1 ≤ count → count ≤ 256 →
    RowsFilled G n w count numbers →
    Same n (λ s. passes_limit (neg all) count (value_of (num (part n numbers (count - 1)) s)))
    (λ s. mark_of all (makes G.arrows n w count s))
last_says all {G} {n} {w} {count} {numbers} some few filled s l =
    ap (λ v. passes_limit (neg all) count (value_of v)) number ∙ latest_says all made count few
  where
    made : ℕ → Bool
    made r = makes G.arrows n w r s

    number : num (part n numbers (count - 1)) s ≡ latest made (suc count)
    number =
        let e : suc (count - 1) ≡ count = omega arith in
        part_at n numbers (count - 1) s l ∙ filled.last (count - 1) s (omega arith) l ∙ ap (λ k. latest made (suc k)) e
