-- The fewest steps for each minute left and state, in one number each: what they are known by, and that the walk by them is
-- the walk by all steps and minutes.
use mathlib.Core.Path.{◌≡◌, refl, sym, ap, subst, ◌∙◌}
use mathlib.Core.Logic.Iff
use mathlib.Core.Logic.{◌↔◌, by_cases}
use mathlib.Core.List.{List, ◌∷◌, Memᴰ}
use mathlib.Core.Option.{Option, none, some}
use mathlib.Core.Bool.{Bool, true, false≢true}
use Prim.Native.Nat.{ℕ, zero, suc, ◌-◌, ◌≤◌, ◌<◌}
use native.Mathlib.Omega.{arith}
use native.Mathlib.Decide.{dec_le}
use lib.Dec.{eqb}
use borrow.Author.Tests.{eqb-true}
use Rattle.base.specs.Yes.{Yes}
use Rattle.base.proofs.Truth.{and_iff}
use Rattle.base.proofs.Compare.{eqb_iff}
use Rattle.outcome.specs.Refusal.{lowest}
use Rattle.outcome.proofs.Lowest.{some_lowest, none_below}
use Rattle.tctl.specs.Chart.{Arrow}
use Rattle.tctl.proofs.Drawn.{Joins}
use Rattle.shown.specs.Shown.{Position, place}
use Rattle.shown.specs.Steps.{first_arrow}
use Rattle.minutes.proofs.Tests.{decide_same}
use Rattle.shown.specs.Exact.{Takes, Onward, first_minutes, serves, reaches, or_number, walk_down, steps_left, by_numbers}
use Rattle.shown.specs.Search.{by_minutes, fewest_steps}
use Rattle.shown.proofs.Best.{first_same}
use Rattle.shown.proofs.Serves.{minutes_same, serves_same, reaches_iff}
use Rattle.shown.proofs.Exact.{first_onward}

module _ (arrows : List Arrow) (p q : ℕ → Bool) where
  abbrev way : ℕ → ℕ → ℕ → Bool
  way = reaches arrows p q

  abbrev left : ℕ → ℕ → ℕ
  left = steps_left arrows p q

  -- ── What the number says ──

  -- it is at most 257; below it is the steps of a path, and none has fewer
  record Said (m s v : ℕ) : Type 0 where
    low : v ≤ 257
    is : v < 257 → reaches arrows p q v m s ≡ true
    fewest : (k : ℕ) → reaches arrows p q k m s ≡ true → v ≤ k

  said : (m s : ℕ) → Said m s (left m s)
  unfolding steps_left
  said m s = turn (lowest (λ k. way k m s) 257) refl
    where
      turn : (o : Option ℕ) → lowest (λ k. way k m s) 257 ≡ o → Said m s (or_number 257 o)
      turn none e =
          record {
            low = omega arith;
            is = λ l. absurd (let z : ⊥ = omega arith in z);
            fewest = λ k h.
                by_cases (dec_le 257 k) (λ l. l)
                (λ l. absurd (false≢true (sym (none_below (λ k. way k m s) 257 e k (omega arith)) ∙ h)));
          }
      turn (some i) e =
          let l = some_lowest (λ k. way k m s) 257 i e in
          record {
            low = omega (arith, l.inside);
            is = λ h. l.offends;
            fewest = λ k h.
                by_cases (dec_le i k) (λ j. j)
                (λ j. absurd (false≢true (sym (l.under k (omega arith)) ∙ h)));
          }

  pub left_low : (m s : ℕ) → steps_left arrows p q m s ≤ 257
  left_low m s = (said m s).low

  pub left_reaches : (m s : ℕ) → steps_left arrows p q m s < 257 → reaches arrows p q (steps_left arrows p q m s) m s ≡ true
  left_reaches m s = (said m s).is

  -- the search by minutes finds it, or there is none
  pub left_found :
      (m s : ℕ) → steps_left arrows p q m s < 257 →
      fewest_steps arrows (by_minutes m p q) s ≡ some (steps_left arrows p q m s)
  unfolding fewest_steps steps_left
  left_found m s = turn (lowest (λ k. way k m s) 257)
    where
      turn : (o : Option ℕ) → or_number 257 o < 257 → o ≡ some (or_number 257 o)
      turn none l = absurd (let z : ⊥ = omega arith in z)
      turn (some i) l = refl

  pub left_none : (m s : ℕ) → 256 < steps_left arrows p q m s → fewest_steps arrows (by_minutes m p q) s ≡ none
  unfolding fewest_steps steps_left
  left_none m s = turn (lowest (λ k. way k m s) 257) refl
    where
      turn :
          (o : Option ℕ) → lowest (λ k. way k m s) 257 ≡ o → 256 < or_number 257 o → lowest (λ k. way k m s) 257 ≡ none
      turn none e l = e
      turn (some i) e l =
          absurd (let z : ⊥ = omega (arith, (some_lowest (λ k. way k m s) 257 i e).inside) in z)

  -- a number of which all this is so is the fewest steps: neither is above the other
  left_is : {m s v : ℕ} → Said m s v → v ≡ left m s
  left_is {m} {s} {v} x =
      let y = said m s in
      let up : v ≤ left m s =
      by_cases (dec_le 257 (left m s)) (λ l. omega (arith, x.low)) (λ l. x.fewest (left m s) (y.is (omega arith))) in
      let down : left m s ≤ v =
      by_cases (dec_le 257 v) (λ l. omega (arith, y.low)) (λ l. y.fewest v (x.is (omega arith))) in
      omega arith

  -- ── Rows that no arrow lowers ──

  -- a step before a path
  pub step_before :
      {a : Arrow} → Memᴰ a arrows → p a.start ≡ true → {m d : ℕ} → Takes a m d → (k : ℕ) →
      reaches arrows p q k (m - d) a.end ≡ true → reaches arrows p q (suc k) m a.start ≡ true
  step_before {a} drawn goes {m} {d} takes k h =
      (reaches_iff arrows p q k m a.start).1 (
        goes,
        record {
          arrow = a;
          drawn = drawn;
          minutes = d;
          serves = record { leaves = refl; takes = takes; there = h };
        },
      )

  -- no arrow lowers a fewest number
  pub left_level :
      {a : Arrow} → Memᴰ a arrows → p a.start ≡ true → {m d : ℕ} → Takes a m d →
      steps_left arrows p q m a.start ≤ suc (steps_left arrows p q (m - d) a.end)
  left_level {a} drawn goes {m} {d} takes =
      let y = said (m - d) a.end in
      by_cases (dec_le 257 (left (m - d) a.end)) (λ l. omega (arith, (said m a.start).low))
      (λ l. (said m a.start).fewest _ (step_before drawn goes takes _ (y.is (omega arith))))

  -- the row of m minutes: what it says is true, it has what ends at once, and no arrow lowers it
  pub record LevelRow (n m : ℕ) (x : ℕ → ℕ → ℕ) : Type 0 where
    pub low : (s : ℕ) → s < n → x m s ≤ 257
    pub is : (s : ℕ) → s < n → x m s < 257 → reaches arrows p q (x m s) m s ≡ true
    pub ends : (s : ℕ) → s < n → m ≡ 0 → q s ≡ true → x m s ≡ 0
    pub level :
        (a : Arrow) → Memᴰ a arrows → p a.start ≡ true → (d : ℕ) → Takes a m d →
        x m a.start ≤ suc (x (m - d) a.end)

  module _
      {n m : ℕ}
      (joins : Joins n arrows)
      {x : ℕ → ℕ → ℕ}
      (below : (i s : ℕ) → i < m → s < n → x i s ≡ steps_left arrows p q i s)
      (row : LevelRow n m x) where
    -- By induction on the steps: a step that takes minutes leads to a row below, one that takes none to the same row,
    -- with a step less.
    none_fewer : (k s : ℕ) → s < n → way k m s ≡ true → x m s ≤ k
    unfolding reaches
    none_fewer zero s l h =
        let w = (and_iff (eqb m 0) (q s)).0 h in
        omega (arith, row.ends s l (eqb-true m 0 w.0) w.1)
    none_fewer (suc k) s l h =
        let w = (reaches_iff arrows p q k m s).0 h in
        let y = w.1 in
        let t = y.arrow.end in
        let d = y.minutes in
        let takes = y.serves.takes in
        let inside = (joins y.arrow y.drawn).1 in
        let rest : x (m - d) t ≤ k =
        by_cases (dec_le 1 d)
        (λ i.
        let under : m - d < m = omega (arith, takes.inside) in
        omega (arith, below (m - d) t under inside, (said (m - d) t).fewest k y.serves.there))
        (λ i.
        let same : m ≡ m - d = omega arith in
        subst (λ m. x m t ≤ k) same
        (none_fewer k t inside (subst (λ m. way k m t ≡ true) (sym same) y.serves.there))) in
        let goes = subst (λ s. p s ≡ true) (sym y.serves.leaves) w.0 in
        let step = row.level y.arrow y.drawn goes d takes in
        subst (λ s. x m s ≤ suc k) y.serves.leaves (omega arith)

    pub level_left : (s : ℕ) → s < n → x m s ≡ steps_left arrows p q m s
    level_left s l =
        left_is (record { low = row.low s l; is = row.is s l; fewest = λ k h. none_fewer k s l h })

  -- ── The walk by the numbers ──

  -- Where suc k steps are the fewest, the arrows that lead to k steps left are those after which k steps reach: a number
  -- of k reaches by k steps; and where k steps reach the number is no more, nor less, for no arrow lowers.
  left_iff :
      {a : Arrow} → Memᴰ a arrows → p a.start ≡ true → {m d : ℕ} → Takes a m d → {k : ℕ} →
      left m a.start ≡ suc k → k < 257 → (left (m - d) a.end ≡ k) ↔ (way k (m - d) a.end ≡ true)
  left_iff {a} drawn goes {m} {d} takes {k} e l =
      let y = said (m - d) a.end in (
        λ h. subst (λ k. way k (m - d) a.end ≡ true) h (y.is (omega arith)),
        λ h. omega (arith, y.fewest k h, left_level drawn goes takes),
      )

  -- a path of suc k steps goes on
  way_on : {k m s : ℕ} → left m s ≡ suc k → suc k < 257 → Yes p s × Onward arrows (way k) m s
  way_on {k} {m} {s} e few =
      (reaches_iff arrows p q k m s).0 (subst (λ k. way k m s ≡ true) e ((said m s).is (omega arith)))

  module _
      {n c : ℕ}
      (joins : Joins n arrows)
      (x : ℕ → ℕ → ℕ)
      (are : (i s : ℕ) → i ≤ c → s < n → x i s ≡ steps_left arrows p q i s) where
    -- so by the numbers and by the paths the same arrows lead on, in the same minutes
    agree :
        {k m s : ℕ} → m ≤ c → left m s ≡ suc k → suc k < 257 → (a : Arrow) → Memᴰ a arrows → a.start ≡ s →
        (d : ℕ) → Takes a m d → by_numbers x k (m - d) a.end ≡ way k (m - d) a.end
    agree {k} {m} {s} l e few a drawn leaves d takes =
        let goes = subst (λ s. p s ≡ true) (sym leaves) (way_on e few).0 in
        let here = subst (λ s. left m s ≡ suc k) (sym leaves) e in
        ap (λ v. eqb v k) (are (m - d) a.end (omega arith) (joins a drawn).1) ∙
        decide_same (eqb (left (m - d) a.end) k) (way k (m - d) a.end)
        (Iff.trans (eqb_iff (left (m - d) a.end) k) (left_iff drawn goes takes here (omega arith))) Iff.rfl

    -- from a number above 0 an arrow leads to one less
    pub numbers_onward :
        {k m s : ℕ} → m ≤ c → s < n → x m s ≡ suc k → suc k < 257 → Onward arrows (by_numbers x k) m s
    numbers_onward {k} {m} {s} l h e few =
        let here : left m s ≡ suc k = sym (are m s l h) ∙ e in
        let y = (way_on here few).1 in
        let v = y.serves in
        record {
          arrow = y.arrow;
          drawn = y.drawn;
          minutes = y.minutes;
          serves =
              record {
                leaves = v.leaves;
                takes = v.takes;
                there = agree l here few y.arrow y.drawn v.leaves y.minutes v.takes ∙ v.there;
              };
        }

    -- By induction on k: the first arrow that serves is the same one by both, and so is the first of its minutes; from
    -- there k steps are the fewest.
    pub walk_by_numbers :
        (k m s : ℕ) → m ≤ c → s < n → steps_left arrows p q m s ≡ k → k < 257 →
        walk_down arrows (by_numbers x) k m s ≡ walk_down arrows (reaches arrows p q) k m s
    unfolding walk_down
    walk_by_numbers zero m s l h e few = refl
    walk_by_numbers (suc k) m s l h e few =
        let w = way_on e few in
        let same = agree l e few in
        let first =
        first_same (serves (by_numbers x k) m s) (serves (way k) m s) arrows
        (λ b j. serves_same (by_numbers x k) (way k) m b s (same b j)) in
        let a = first_arrow (serves (way k) m s) arrows in
        let y = first_onward arrows (way k) m s w.1 in
        let v = y.1 in
        let d = or_number 0 (first_minutes (way k) m a) in
        let minutes = minutes_same (by_numbers x k) (way k) m a (same a y.0 v.leaves) in
        let goes = subst (λ s. p s ≡ true) (sym v.leaves) w.0 in
        let here = subst (λ s. left m s ≡ suc k) (sym v.leaves) e in
        let rest = (left_iff y.0 goes v.takes here (omega arith)).1 v.there in
        let on : ℕ → Arrow → List Position =
        λ d a. place s d ∷ walk_down arrows (by_numbers x) k (m - d) a.end in
        ap (λ a. on (or_number 0 (first_minutes (by_numbers x k) m a)) a) first ∙
        ap (λ o. on (or_number 0 o) a) minutes ∙
        ap (λ run. place s d ∷ run)
        (walk_by_numbers k (m - d) a.end (omega arith) (joins a y.0).1 rest (omega arith))
