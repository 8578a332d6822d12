-- A search asks its tests of states alone: where two agree on those, so do their numbers, the fewest steps and the walks.
use mathlib.Core.Path.{◌≡◌, refl, ap, ap₂, ◌∙◌}
use mathlib.Core.List.{List, ◌∷◌, Memᴰ}
use mathlib.Core.Bool.{Bool, cond, ◌&&◌}
use Prim.Native.Nat.{ℕ, zero, suc, ◌-◌, ◌<◌}
use native.Mathlib.Omega.{arith}
use lib.Dec.{eqb, leb}
use Rattle.tctl.specs.Chart.{Arrow}
use Rattle.base.proofs.Same.{Same}
use Rattle.tctl.proofs.Drawn.{Joins}
use Rattle.minutes.proofs.Any.{any_same}
use Rattle.shown.specs.Shown.{Position, place}
use Rattle.shown.specs.Steps.{Quest, by_step, first_arrow, is_best, walk}
use Rattle.shown.specs.Exact.{Takes, first_minutes, serves, reaches, or_number, walk_down}
use Rattle.shown.specs.Search.{Search, by_steps, by_minutes, enough_by, walk_by, fewest_steps}
use Rattle.shown.proofs.Best.{best_same, first_elim, first_same}
use Rattle.shown.proofs.Table.{offers}
use Rattle.shown.proofs.Serves.{lowest_same, minutes_same, serves_same}

-- ── By steps ──

-- the quest with other states to go on from and other worths of the last state
abbrev pub asking : Quest → (ℕ → Bool) → (ℕ → ℕ) → Quest
asking z go base = record { go = go; base = base; worth = z.worth; pick = z.pick; need = z.need }

module _
    {n : ℕ}
    {arrows : List Arrow}
    (joins : Joins n arrows)
    (z : Quest)
    {go : ℕ → Bool}
    {base : ℕ → ℕ}
    (goes : Same n z.go go)
    (bases : Same n z.base base) where
  abbrev z' : Quest
  z' = asking z go base

  abbrev T : ℕ → ℕ → ℕ
  T = by_step arrows z

  abbrev T' : ℕ → ℕ → ℕ
  T' = by_step arrows z'

  -- by induction on k: every arrow ends in a state
  by_step_same : (k : ℕ) → Same n (T k) (T' k)
  unfolding by_step
  by_step_same zero s l = bases s l
  by_step_same (suc k) s l =
      let each : (a : Arrow) → Memᴰ a arrows → offers z (T k) s a ≡ offers z (T' k) s a =
      λ a m. ap (λ v. cond (eqb a.start s) (z.worth a v) 0) (by_step_same k a.end (joins a m).1) in
      ap₂ (λ b v. cond b v 0) (goes s l) (best_same (offers z (T k) s) (offers z (T' k) s) arrows each)

  -- by induction on k: the first best arrow is the same one, and it ends in a state
  quest_walk_same : (k : ℕ) {s : ℕ} → s < n → walk arrows z k s ≡ walk arrows z' k s
  unfolding walk first_arrow
  quest_walk_same zero l = refl
  quest_walk_same (suc k) {s} l =
      let tests : (a : Arrow) → Memᴰ a arrows → is_best arrows z k s a ≡ is_best arrows z' k s a =
      λ a m.
      ap₂ (λ v x. eqb a.start s && eqb (z.worth a v) x) (by_step_same k a.end (joins a m).1)
      (by_step_same (suc k) s l) in
      let a = first_arrow (is_best arrows z k s) arrows in
      let inside : a.end < n = first_elim (λ a. a.end < n) _ arrows (λ a m. (joins a m).1) (omega arith) in
      ap (λ run. place s (z.pick a) ∷ run) (quest_walk_same k inside) ∙
      ap (λ a. place s (z.pick a) ∷ walk arrows z' k a.end)
      (first_same (is_best arrows z k s) (is_best arrows z' k s) arrows tests)

-- ── By minutes ──

module _
    {n : ℕ}
    {arrows : List Arrow}
    (joins : Joins n arrows)
    {p p' q q' : ℕ → Bool}
    (ps : Same n p p')
    (qs : Same n q q') where
  abbrev way : ℕ → ℕ → ℕ → Bool
  way = reaches arrows p q

  abbrev way' : ℕ → ℕ → ℕ → Bool
  way' = reaches arrows p' q'

  -- by induction on k: every arrow ends in a state
  reaches_same : (k m : ℕ) → Same n (way k m) (way' k m)
  unfolding reaches
  reaches_same zero m s l = ap (λ b. eqb m 0 && b) (qs s l)
  reaches_same (suc k) m s l =
      ap₂ ◌&&◌ (ps s l)
      (any_same (serves (way k) m s) (serves (way' k) m s) arrows
      (λ a j. serves_same (way k) (way' k) m a s (λ i d t. reaches_same k (m - d) a.end (joins a j).1)))

  -- by induction on k: the first arrow that serves and the first of its minutes are the same, and it ends in a state
  down_same : (k m : ℕ) {s : ℕ} → s < n → walk_down arrows way k m s ≡ walk_down arrows way' k m s
  unfolding walk_down first_arrow
  down_same zero m l = refl
  down_same (suc k) m {s} l =
      let agree : (b : Arrow) → b.end < n → (d : ℕ) → Takes b m d → way k (m - d) b.end ≡ way' k (m - d) b.end =
      λ b i d t. reaches_same k (m - d) b.end i in
      let first =
      first_same (serves (way k) m s) (serves (way' k) m s) arrows
      (λ b j. serves_same (way k) (way' k) m b s (λ i. agree b (joins b j).1)) in
      let a = first_arrow (serves (way k) m s) arrows in
      let inside : a.end < n = first_elim (λ a. a.end < n) _ arrows (λ a m. (joins a m).1) (omega arith) in
      let d = or_number 0 (first_minutes (way k) m a) in
      let on : ℕ → Arrow → List Position = λ d a. place s d ∷ walk_down arrows way' k (m - d) a.end in
      ap (λ run. place s d ∷ run) (down_same k (m - d) inside) ∙
      ap (λ o. on (or_number 0 o) a) (minutes_same (way k) (way' k) m a (agree a inside)) ∙
      ap (λ a. on (or_number 0 (first_minutes (way' k) m a)) a) first

-- ── Either ──

-- two searches for the same, by tests that agree on the states
pub data Alike (n : ℕ) : Search → Search → Type 0 where
  steps :
      (z : Quest) {go : ℕ → Bool} {base : ℕ → ℕ} → Same n z.go go → Same n z.base base →
      Alike n (by_steps z) (by_steps (asking z go base))
  minutes :
      (c : ℕ) {p p' q q' : ℕ → Bool} → Same n p p' → Same n q q' → Alike n (by_minutes c p q) (by_minutes c p' q')

module _ {n : ℕ} {arrows : List Arrow} (joins : Joins n arrows) {s : ℕ} (l : s < n) where
  enough_same :
      {z z' : Search} → Alike n z z' → (k : ℕ) → enough_by arrows z s k ≡ enough_by arrows z' s k
  enough_same (steps z goes bases) k = ap (leb z.need) (by_step_same joins z goes bases k s l)
  enough_same (minutes c ps qs) k = reaches_same joins ps qs k c s l

  pub fewest_same : {z z' : Search} → Alike n z z' → fewest_steps arrows z s ≡ fewest_steps arrows z' s
  unfolding fewest_steps
  fewest_same {z} {z'} h = lowest_same (enough_by arrows z s) (enough_by arrows z' s) 257 (λ k i. enough_same h k)

  pub walk_same : {z z' : Search} → Alike n z z' → (k : ℕ) → walk_by arrows z k s ≡ walk_by arrows z' k s
  walk_same (steps z goes bases) k = quest_walk_same joins z goes bases k l
  walk_same (minutes c ps qs) k = down_same joins ps qs k c l
