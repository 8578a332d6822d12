-- The table asks its task of states alone: where two tasks agree on these, so do their rows, and so do the untils.
use mathlib.Core.Path.{◌≡◌, refl, ap, ap₂, ◌∙◌}
use mathlib.Core.List.{List}
use mathlib.Core.Bool.{Bool, not, cond, ◌&&◌}
use Prim.Native.Nat.{ℕ, zero, suc, ◌+◌, ◌-◌, ◌<◌}
use native.Mathlib.Omega.{arith}
use lib.Dec.{ltb, eqb}
use Rattle.base.proofs.Same.{Same}
use Rattle.tctl.specs.Chart.{Arrow}
use Rattle.tctl.specs.Formula.{Bound, at_most, at_least, exactly}
use Rattle.tctl.proofs.Drawn.{Joins}
use Rattle.minutes.specs.Makes.{Task, stops_at, goes_at}
use Rattle.minutes.specs.Table.{leads, add, onward, reached, rows_below, makes}
use Rattle.minutes.specs.Untils.{row_of, task_of, plain, beyond_of, counted}
use Rattle.minutes.proofs.Latest.{latest_local}
use Rattle.minutes.proofs.Any.{any_same}

-- ── Tasks ──

-- the tasks agree below n
pub record SameTask (n : ℕ) (w w' : Task) : Type 0 where
  pub now : (m s : ℕ) → s < n → w.now m s ≡ w'.now m s
  pub go : (m s : ℕ) → s < n → w.go m s ≡ w'.go m s
  pub beyond : (s : ℕ) → s < n → w.beyond s ≡ w'.beyond s

module _ {n : ℕ} {w w' : Task} (same : SameTask n w w') where
  stops_same : (r s : ℕ) → s < n → stops_at w r s ≡ stops_at w' r s
  stops_same zero s l = same.beyond s l
  stops_same (suc m) s l = same.now m s l

  goes_same : (r s : ℕ) → s < n → goes_at w r s ≡ goes_at w' r s
  goes_same zero s l = refl
  goes_same (suc m) s l = same.go m s l

-- ── Rows ──

leads_same : (f g : ℕ → Bool) (r : ℕ) (a : Arrow) → ((i : ℕ) → f i ≡ g i) → leads f r a ≡ leads g r a
leads_same f g r a h = rw (latest_local f g (suc (r - a.fewest)) (λ i l. h i))

module _ {n : ℕ} {arrows : List Arrow} (joins : Joins n arrows) {w w' : Task} (same : SameTask n w w') where
  reached_same :
      (r : ℕ) (old old' : ℕ → ℕ → Bool) → ((i : ℕ) → Same n (old i) (old' i)) →
      (k : ℕ) → Same n (reached arrows w old r k) (reached arrows w' old' r k)
  unfolding reached
  reached_same r old old' h zero s l = stops_same same r s l
  reached_same r old old' h (suc k) s l =
      let ih = reached_same r old old' h k in
      let here = ih s l in
      let go = goes_same same r s l in
      let x = add r old (reached arrows w old r k) in
      let x' = add r old' (reached arrows w' old' r k) in
      let row : (i : ℕ) → Same n (x i) (x' i) = λ i t j. ap₂ (λ b c. cond (ltb i r) b c) (h i t j) (ih t j) in
      let on : onward arrows x r s ≡ onward arrows x' r s =
      any_same _ _ arrows
      (λ a k.
      ap (λ b. eqb a.start s && b)
      (leads_same (λ i. x i a.end) (λ i. x' i a.end) r a (λ i. row i a.end (joins a k).1))) in
      cc

  rows_same : (r i : ℕ) → Same n (rows_below arrows n w r i) (rows_below arrows n w' r i)
  unfolding rows_below
  rows_same zero i s l = refl
  rows_same (suc r) i s l =
      let ih = rows_same r in
      let old = ih i s l in
      let new = reached_same r (rows_below arrows n w r) (rows_below arrows n w' r) ih n s l in
      cc

  pub makes_same : (r s : ℕ) → s < n → makes arrows n w r s ≡ makes arrows n w' r s
  makes_same r = rows_same (suc r) r

-- ── Untils ──

-- the tasks of an until of tests that agree
pub task_same :
    (n : ℕ) (all : Bool) (b : Bound) {p p' q q' x x' : ℕ → Bool} → Same n p p' → Same n q q' → Same n x x' →
    SameTask n (task_of all b p q x) (task_of all b p' q' x')
task_same n all b ps qs xs =
    record {
      now = λ m s l. rw (ps s l, qs s l);
      go = λ m s l. rw (ps s l, qs s l);
      beyond = xs;
    }

module _
    {n : ℕ}
    {arrows : List Arrow}
    (joins : Joins n arrows)
    (all : Bool)
    {p p' q q' : ℕ → Bool}
    (ps : Same n p p')
    (qs : Same n q q') where
  plain_same : (k : ℕ) → Same n (plain arrows n all p q k) (plain arrows n all p' q' k)
  unfolding plain
  plain_same zero s l = refl
  plain_same (suc k) s l = makes_same joins (task_same n all (at_most 0) ps qs (plain_same k)) 1 s l

  beyond_same : (b : Bound) → Same n (beyond_of arrows n all b p q) (beyond_of arrows n all b p' q')
  beyond_same (at_most c) s l = refl
  beyond_same (at_least c) s l = plain_same n s l
  beyond_same (exactly c) s l = refl

  pub counted_same : (b : Bound) (s : ℕ) → s < n → counted all b arrows n p q s ≡ counted all b arrows n p' q' s
  counted_same b s l =
      ap (λ v. cond all (not v) v) (makes_same joins (task_same n all b ps qs (beyond_same b)) (row_of b) s l)

-- a wait that changes nothing: each later one starts from the same answers, and changes nothing either
pub plain_still :
    {n : ℕ} {arrows : List Arrow} → Joins n arrows → (all : Bool) (p q : ℕ → Bool) (k : ℕ) →
    Same n (plain arrows n all p q (suc k)) (plain arrows n all p q k) →
    (j : ℕ) → Same n (plain arrows n all p q (k + j)) (plain arrows n all p q k)
unfolding plain
plain_still {n} {arrows} joins all p q k still zero s l =
    let e : k + 0 ≡ k = omega arith in
    rw e
plain_still {n} {arrows} joins all p q k still (suc j) s l =
    let e : k + suc j ≡ suc (k + j) = omega arith in
    let ih = plain_still joins all p q k still j in
    let tasks = task_same n all (at_most 0) {p = p} {q = q} (λ s l. refl) (λ s l. refl) ih in
    let again = makes_same joins tasks 1 s l in
    rw e (again ∙ still s l)
