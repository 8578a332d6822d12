-- A step of the walk, by what is found and read.
use mathlib.Core.Path.{◌≡◌, sym, ap, subst, ◌∙◌}
use mathlib.Core.Bool.{Bool}
use mathlib.Core.List.{List, [], ◌∷◌}
use mathlib.Core.Option.{some}
use Prim.Native.Nat.{ℕ, suc, ◌-◌, ◌≤◌, ◌<◌}
use native.Mathlib.Omega.{arith}
use lib.ListN.{length}
use borrow.Author.Tests.{eqb-true}
use Rattle.tctl.specs.Chart.{Arrow}
use Rattle.chart.specs.declared.ArrowWords.{ArrowWords}
use Rattle.chart.specs.Bytes.{arrow_of, chart_of}
use Rattle.shown.specs.Shown.{Position, place}
use Rattle.shown.specs.Exact.{Serves, Onward, first_minutes, serves, or_number, walk_down}
use Rattle.shown.specs.Steps.{first_arrow}
use Rattle.shown.proofs.Exact.{first_onward, length_down}
use Rattle.exact_table.specs.Rows.{left_in}
use Rattle.exact_walk.specs.Walk.{steps_in, walk_in, Walkable}

pub walk_in_length :
    (chart : List ℕ) (n : ℕ) (table : List ℕ) (k m s : ℕ) → length (walk_in chart n table k m s) ≡ suc k
walk_in_length chart n table k m s = length_down (chart_of chart).arrows (steps_in n table) k m s

-- after the last step
pub walk_last :
    (chart : List ℕ) (n : ℕ) (table : List ℕ) (m s : ℕ) {left : ℕ} → left ≡ 0 →
    walk_in chart n table left m s ≡ place s 0 ∷ []
unfolding walk_down
walk_last chart n table m s e = ap (λ x. walk_in chart n table x m s) e

-- d minutes are left out of those that are left, the end has a step less, and the walk goes on from there
pub record Stepped (chart : List ℕ) (n : ℕ) (table : List ℕ) (left k m s : ℕ) (a : ArrowWords) (d : ℕ) : Type 0 where
  pub inside : d ≤ m
  pub number : left_in n table (m - d) a.end ≡ k
  pub walk : walk_in chart n table left m s ≡ place s d ∷ walk_in chart n table k (m - d) a.end

-- The first arrow that serves is the one that is read, and the first of its minutes is found.
pub stepped :
    (chart : List ℕ) (n : ℕ) (table : List ℕ) (s : ℕ) {left k m d : ℕ} {a : ArrowWords} → left ≡ suc k →
    Onward (chart_of chart).arrows (steps_in n table k) m s →
    arrow_of a ≡ first_arrow (serves (steps_in n table k) m s) (chart_of chart).arrows →
    first_minutes (steps_in n table k) m (arrow_of a) ≡ some d → Stepped chart n table left k m s a d
unfolding walk_down
stepped chart n table s {left} {k} {m} {d} {a} e onward is minutes =
    record {
      inside = serve.takes.inside;
      number = eqb-true (left_in n table (m - d) a.end) k serve.there;
      walk =
          ap (λ x. walk_in chart n table x m s) e ∙
          ap (λ b. step (or_number 0 (first_minutes f m b)) b) (sym is) ∙
          ap (λ d. step d (arrow_of a)) same;
    }
  where
    f : ℕ → ℕ → Bool
    f = steps_in n table k

    step : ℕ → Arrow → List Position
    step d b = place s d ∷ walk_in chart n table k (m - d) b.end

    same : or_number 0 (first_minutes f m (arrow_of a)) ≡ d
    same = ap (or_number 0) minutes

    serve : Serves f m s (arrow_of a) d
    serve =
        subst (Serves f m s (arrow_of a)) same
        (subst (λ b. Serves f m s b (or_number 0 (first_minutes f m b))) (sym is)
        (first_onward (chart_of chart).arrows f m s onward).1)

-- where steps are left, by the numbers, an arrow was found and its first minutes
pub step_down :
    {chart : List ℕ} {n m c k s : ℕ} {table out : List ℕ} → Walkable chart n m c k s table out →
    {left minutes state d : ℕ} {a : ArrowWords} → state < n → minutes ≤ c → left ≤ k →
    left_in n table minutes state ≡ left → 0 < left →
    arrow_of a ≡ first_arrow (serves (steps_in n table (left - 1)) minutes state) (chart_of chart).arrows →
    first_minutes (steps_in n table (left - 1)) minutes (arrow_of a) ≡ some d →
    Stepped chart n table left (left - 1) minutes state a d
step_down {chart} {n} {table = table} p {left} {minutes} {state} h l low e more =
    stepped chart n table state (omega arith)
    (p.down (left - 1) minutes state l h (omega (arith, e)) (omega (arith, p.short)))
