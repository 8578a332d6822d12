-- The rows of the table decide who makes it: n rounds inside a row are enough.
use mathlib.Core.Path.{◌≡◌, refl, sym, subst, ◌∙◌}
use mathlib.Core.Logic.Iff
use mathlib.Core.Logic.{◌↔◌, ◌⊎◌, inl, inr, ⊎_elim, by_cases}
use mathlib.Core.List.{Memᴰ}
use mathlib.Core.Bool.{Bool, true}
use Prim.Native.Nat.{ℕ, zero, suc, ◌≤◌, ◌<◌}
use native.Mathlib.Omega.{arith}
use native.Mathlib.Decide.{dec_le}
use borrow.Author.Tests.{lt-ltb, le-ltb}
use Rattle.base.proofs.Truth.{both_iff, either_iff}
use Rattle.base.proofs.Compare.{eqb_iff}
use Rattle.tctl.specs.Chart.{Chart, Arrow, states}
use Rattle.tctl.proofs.Drawn.{Drawn}
use Rattle.minutes.specs.Makes.{Task, stops_at, goes_at, Makes, stops}
use Rattle.minutes.specs.Table.{add, reached, rows_below, makes}
use Rattle.minutes.proofs.Tests.{decide_same}
use Rattle.minutes.proofs.Count.{count, count_le, count_same}
use Rattle.minutes.proofs.Any.{any_iff}
use Rattle.minutes.proofs.OneRow.{Adds, Quiet, sound_arrow, complete_row}

-- ── A row added ──

module _ (r : ℕ) (old : ℕ → ℕ → Bool) (row : ℕ → Bool) where
  add_below : (i s : ℕ) → i < r → add r old row i s ≡ old i s
  add_below i s l = rw (lt-ltb i r l)

  add_at : (i s : ℕ) → r ≤ i → add r old row i s ≡ row s
  add_at i s l = rw (le-ltb i r l)

-- ── Rounds inside a row ──

module _ {G : Chart} (dr : Drawn G) (w : Task) (old : ℕ → ℕ → Bool) (r : ℕ) where
  -- the row after k rounds, and the rows up to it
  after : ℕ → ℕ → Bool
  after k = reached G.arrows w old r k

  with_row : ℕ → ℕ → ℕ → Bool
  with_row k = add r old (after k)

  -- an arrow leads on from s, by the rows after k rounds
  Onward : ℕ → ℕ → Type 0
  Onward k s = (a : Arrow) × Memᴰ a G.arrows × ((a.start ≡ s) × Adds (with_row k) r a)

  -- one more round: what was reached, and what an arrow leads on from
  after_suc :
      (k s : ℕ) → (after (suc k) s ≡ true) ↔ ((after k s ≡ true) ⊎ ((goes_at w r s ≡ true) × Onward k s))
  unfolding after with_row Onward reached
  after_suc k s =
      either_iff Iff.rfl
      (both_iff Iff.rfl (any_iff _ (λ a. both_iff (eqb_iff a.start s) Iff.rfl) G.arrows))

  -- ── Sound ──

  module _ (old-sound : (i t : ℕ) → i < r → t < states G → old i t ≡ true → Makes G w i t) where
    -- the rows up to r, if row r is
    row_sound :
        (k : ℕ) → ((t : ℕ) → t < states G → after k t ≡ true → Makes G w r t) →
        (i t : ℕ) → i ≤ r → t < states G → with_row k i t ≡ true → Makes G w i t
    unfolding with_row
    row_sound k f i t l low h =
        by_cases (dec_le (suc i) r) (λ b. old-sound i t b low (sym (add_below r old (after k) i t b) ∙ h))
        (λ b.
        let e : r ≡ i = omega arith in
        subst (λ i. Makes G w i t) e (f t low (sym (add_at r old (after k) i t (omega arith)) ∙ h)))

    after_sound : (k s : ℕ) → s < states G → after k s ≡ true → Makes G w r s
    unfolding after Onward reached
    after_sound zero s l h = stops h
    after_sound (suc k) s l h =
        let ih = after_sound k in
        ⊎_elim (λ e. ih s l e)
        (λ e.
        let on = e.1 in
        let there = on.2.0 in
        let g = subst (λ u. goes_at w r u ≡ true) (sym there) e.0 in
        subst (Makes G w r) there (sound_arrow dr w (with_row k) r (row_sound k ih) on.0 on.1 g on.2.1))
        ((after_suc k s).0 h)

  -- ── Complete ──

  -- what is reached stays so
  after_up : (j k s : ℕ) → j ≤ k → after j s ≡ true → after k s ≡ true
  after_up j zero s l h = let e : j ≡ 0 = omega arith in subst (λ j. after j s ≡ true) e h
  after_up j (suc k) s l h =
      let ih : j ≤ k → after k s ≡ true = λ i. after_up j k s i h in
      by_cases (dec_le j k) (λ i. (after_suc k s).1 (inl (ih i)))
      (λ i. let e : j ≡ suc k = omega arith in subst (λ j. after j s ≡ true) e h)

  -- a round that adds nothing
  Still : ℕ → Type 0
  Still k = (s : ℕ) → s < states G → after (suc k) s ≡ true → after k s ≡ true

  -- how many states the row has after k rounds
  size : ℕ → ℕ
  size k = count (after k) (states G)

  grows_or_still : (k : ℕ) → Still k ⊎ (size k < size (suc k))
  unfolding Still size
  grows_or_still k =
      let c = count_same (after k) (after (suc k)) (states G) (λ s l. after_up k (suc k) s (omega arith)) in
      by_cases (dec_le (count (after (suc k)) (states G)) (count (after k) (states G))) (λ l. inl (c.1 l))
      (λ l. inr (omega arith))

  find_still : (k : ℕ) → ((j : ℕ) × (j < k) × Still j) ⊎ (k ≤ size k)
  find_still zero = inr (omega arith)
  find_still (suc k) = turn (find_still k) (grows_or_still k)
    where
      turn :
          ((j : ℕ) × (j < k) × Still j) ⊎ (k ≤ size k) → Still k ⊎ (size k < size (suc k)) →
          ((j : ℕ) × (j < suc k) × Still j) ⊎ (suc k ≤ size (suc k))
      turn (inl h) g = inl (h.0, omega (arith, h.1), h.2)
      turn (inr h) (inl g) = inl (k, omega arith, g)
      turn (inr h) (inr g) = inr (omega arith)

  -- Each round before a still one reaches a state more, and there are n.
  still : (j : ℕ) × (j < suc (states G)) × Still j
  unfolding size
  still =
      ⊎_elim (λ h. h) (λ h. absurd (let z : ⊥ = omega (arith, count_le (after (suc (states G))) (states G)) in z))
      (find_still (suc (states G)))

  start : (s : ℕ) → stops_at w r s ≡ true → after 0 s ≡ true
  unfolding after reached
  start s e = e

  still_quiet : (j : ℕ) → Still j → Quiet G w (with_row j) r
  unfolding Still with_row Onward
  still_quiet j h =
      record {
        begins = λ s l e. add_at r old (after j) r s (omega arith) ∙ after_up 0 j s (omega arith) (start s e);
        closed = λ a k g e.
            add_at r old (after j) r a.start (omega arith) ∙
            h a.start (dr.starts a k) ((after_suc j a.start).1 (inr (g, (a, k, (refl, e)))));
      }

  -- The rows are quiet after the still round, and later rounds only add.
  module _ (old-complete : (i t : ℕ) → i < r → t < states G → Makes G w i t → old i t ≡ true) where
    after_complete : (s : ℕ) → s < states G → Makes G w r s → after (states G) s ≡ true
    unfolding with_row
    after_complete s l v =
        let j = still in
        let below : (i t : ℕ) → i < r → t < states G → Makes G w i t → with_row j.0 i t ≡ true =
        λ i t k low u. add_below r old (after j.0) i t k ∙ old-complete i t k low u in
        let here = complete_row dr w (with_row j.0) below (still_quiet j.0 j.2) v refl l in
        after_up j.0 (states G) s (omega (arith, j.1)) (sym (add_at r old (after j.0) r s (omega arith)) ∙ here)

-- ── The rows ──

module _ {G : Chart} (dr : Drawn G) (w : Task) where
  rows_iff :
      (c i s : ℕ) → i < c → s < states G → (rows_below G.arrows (states G) w c i s ≡ true) ↔ Makes G w i s
  unfolding rows_below after
  rows_iff zero i s k l = absurd (let z : ⊥ = omega arith in z)
  rows_iff (suc c) i s k l =
      let old = rows_below G.arrows (states G) w c in
      let ih = rows_iff c in
      let row = reached G.arrows w old c (states G) in
      by_cases (dec_le (suc i) c)
      (λ b.
      let e = add_below c old row i s b in
      (λ h. (ih i s b l).0 (sym e ∙ h), λ v. e ∙ (ih i s b l).1 v))
      (λ b.
      let e = add_at c old row i s (omega arith) in
      let same : c ≡ i = omega arith in
      let sound = after_sound dr w old c (λ i t k low. (ih i t k low).0) (states G) s l in
      let complete = after_complete dr w old c (λ i t k low. (ih i t k low).1) s l in (
        λ h. subst (λ i. Makes G w i s) same (sound (sym e ∙ h)),
        λ v. e ∙ complete (subst (λ i. Makes G w i s) (sym same) v),
      ))

  -- in row r, the table says yes just where the state makes it
  pub makes_iff : (r s : ℕ) → s < states G → (makes G.arrows (states G) w r s ≡ true) ↔ Makes G w r s
  makes_iff r s l = rows_iff (suc r) r s (omega arith) l

  -- a row filled in another order: above the same rows, sound, and quiet, it is the same
  pub filled :
      (x : ℕ → ℕ → Bool) (r : ℕ) →
      ((i s : ℕ) → i < r → s < states G → x i s ≡ makes G.arrows (states G) w i s) →
      ((s : ℕ) → s < states G → x r s ≡ true → Makes G w r s) →
      Quiet G w x r →
      (s : ℕ) → s < states G → x r s ≡ makes G.arrows (states G) w r s
  filled x r rows-below sound quiet s l =
      let below : (i t : ℕ) → i < r → t < states G → Makes G w i t → x i t ≡ true =
      λ i t k low v. rows-below i t k low ∙ (makes_iff i t low).1 v in
      decide_same (x r s) (makes G.arrows (states G) w r s)
      (sound s l, λ v. complete_row dr w x below quiet v refl l) (makes_iff r s l)
