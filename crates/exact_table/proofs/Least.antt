-- The least of some numbers, up to 257, found one after another.
use mathlib.Core.Path.{◌≡◌}
use mathlib.Core.Logic.{by_cases}
use mathlib.Core.List.{List}
use Prim.Native.Nat.{ℕ, ◌+◌, ◌-◌, ◌*◌, ◌≤◌, ◌<◌, min}
use native.Mathlib.Omega.{arith}
use native.Mathlib.Nat.{mul-le-mul_right}
use native.Mathlib.Decide.{dec_le}
use borrow.Author.Count.{below_more}
use Rattle.moves.specs.declared.Move.{Move}
use Rattle.moves.specs.Moves.{arrow_by}
use Rattle.exact_table.specs.Rows.{left_in}
use Rattle.exact_table.specs.Lowered.{LeastAfter}

-- the numbers of the rows up to one lie before its end
pub in_rows : (n s : ℕ) {m minute : ℕ} → m ≤ minute → s < n → m * n + s < minute * n + n
in_rows n s l h = omega (arith, mul-le-mul_right n l)

-- of the numbers from `first` up to another place, none of them past `last`
pub record LeastOf (x : ℕ → ℕ) (first last to r : ℕ) : Type 0 where
  pub low : r ≤ 257
  pub least : (d : ℕ) → first ≤ d → d < to → r ≤ x d
  pub some : r < 257 → (d : ℕ) × (first ≤ d) × (d ≤ last) × (x d ≡ r)

pub least_none : (x : ℕ → ℕ) (first last : ℕ) → LeastOf x first last first 257
least_none x first last =
    record {
      low = omega arith;
      least = λ d l h. absurd (let z : ⊥ = omega arith in z);
      some = λ l. absurd (let z : ⊥ = omega arith in z);
    }

-- one number more
pub least_more :
    {x : ℕ → ℕ} {first last to r new : ℕ} → LeastOf x first last to r → first ≤ to → to ≤ last →
    new ≡ min r (x to) → LeastOf x first last (to + 1) new
least_more {x} {first} {last} {to} {r} {new} h up l is =
    record {
      low = omega (arith, h.low);
      least = λ d i k.
          below_more (λ d. first ≤ d → new ≤ x d) to (λ d k i. omega (arith, h.least d i k)) (λ i. omega arith) d k i;
      some = λ small. by_cases (dec_le r (x to)) (kept small) (λ k. (to, up, l, omega arith));
    }
  where
    kept : new < 257 → r ≤ x to → (d : ℕ) × (first ≤ d) × (d ≤ last) × (x d ≡ new)
    kept small k = let y = h.some (omega arith) in (y.0, y.1, y.2, omega (arith, y.3))

-- past the last, it is the least that the arrow leads to
pub least_all :
    {n longest minute : ℕ} (w : Move) (table : List ℕ) {last to r : ℕ} → last ≡ min longest w.most → last < to →
    LeastOf (λ d. left_in n table (minute - d) w.end) w.fewest last to r →
    LeastAfter n longest minute (arrow_by w) table r
least_all w table {last} e over h =
    record {
      low = h.low;
      least = λ d t. h.least d t.least (omega (arith, t.inside, t.greatest));
      some = λ small.
          let y = h.some small in
          (y.0, record { inside = omega (arith, y.2); least = y.1; greatest = omega (arith, y.2) }, y.3);
    }
