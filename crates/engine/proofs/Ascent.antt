-- Numbers that rise as the model's do, and in the end are the model's.
use mathlib.Core.Path.{◌≡◌, refl, sym, ap, subst, subst₂, ◌∙◌}
use mathlib.Core.Bool.{Bool, true, false}
use mathlib.Core.List.Memᴰ
use mathlib.Core.List.{List, map, Memᴰ}
use Prim.Native.Nat.{ℕ, zero, suc, ◌≤◌, ◌<◌}
use native.Mathlib.Omega.{arith}
use lib.ListN.{length, set}
use Rattle.tctl.specs.Chart.{Arrow, Most, states}
use Rattle.base.specs.Tabulate.{tabulate}
use Rattle.tctl.proofs.Drawn.{Drawn}
use Rattle.model.specs.Engine.{num, rounds, offer, raise, greatest, raised, gain}
use Rattle.model.specs.Weighed.{weight, weighing, weighed, weighed_chart}
use Rattle.model.proofs.Numbers.{tabulate_num}
use Rattle.model.proofs.RoundLaws.{rounds_map}
use Rattle.model.proofs.Weighed.{weighed_drawn}
use Rattle.model.proofs.Raise.{Offered}
use Rattle.model.proofs.Rising.{Rising, rising_start, rising_less, rising_offer, rising_loop, rising_held}
use Rattle.model.proofs.Greatest.{greatest_is}
use Rattle.chart.specs.Bytes.{chart_of}
use Rattle.chart.specs.Shape.{Passed}
use Rattle.chart.proofs.Chart.{arrow_mem, arrow_of_lem}
use Rattle.chart.proofs.Reading.{has_states, drawn}
use Rattle.ways.specs.declared.Climb.{Climb}
use Rattle.ways.specs.declared.Way.TheVariants.{Raise}
use Rattle.ways.specs.Way.{ceiling_of, leaps_of, offer_of, reached_of}
use Rattle.visits.specs.Moves.{arrow_at, Held, Moved, none, more, leap}

-- what is offered, is offered from a number above 0
gains : (cap : ℕ) (most : Most) (v : ℕ) {u : ℕ} → u < gain cap most v → 1 ≤ v
gains cap most zero l = absurd (let z : ⊥ = omega arith in z)
gains cap most (suc v) l = omega arith

-- and is the model's offer
offers_all : (cap : ℕ) (most : Most) (v : ℕ) → 1 ≤ v → gain cap most v ≡ offer cap most v
offers_all cap most zero l = absurd (let z : ⊥ = omega arith in z)
offers_all cap most (suc v) l = refl

-- An arrow that weighs its most minutes has lost its fewest, at which `raise` does not look.
weighed_rounds :
    (ticks b : Bool) (c : ℕ) (go : ℕ → Bool) (n : ℕ) (arrows : List Arrow) (vs : List ℕ) →
    rounds (raise b go c) n (map (weighing ticks) arrows) vs ≡ rounds (raise b go c) n (weighed ticks arrows) vs
unfolding raise
weighed_rounds true b c go n arrows vs = refl
weighed_rounds false b c go n arrows vs = rounds_map (raise b go c) (weighing false) n arrows vs

module _
    {chart : List ℕ} {n m : ℕ} (p : Passed chart n m) (go : ℕ → Bool) (climb : Climb) (old : List ℕ)
    (size : length old ≡ n) where
  abbrev ticks : Bool
  ticks = climb.ticks

  abbrev cap : ℕ
  cap = climb.cap

  same_size : length old ≡ states (chart_of chart)
  same_size = size ∙ sym (has_states p)

  all_numbers : tabulate (states (chart_of chart)) (num old) ≡ old
  all_numbers = subst (λ k. tabulate k (num old) ≡ old) same_size (tabulate_num old)

  heavy : Drawn (weighed_chart ticks (chart_of chart))
  heavy = weighed_drawn ticks (drawn p)

  -- numbers on their way up from the old ones, after k sweeps
  abbrev pub Rises : ℕ → List ℕ → Type 0
  Rises k vs = Rising (weighed_chart ticks (chart_of chart)) go cap (num old) k vs

  pub rises_none : Rises 0 old
  rises_none = rising_start heavy go cap (num old) old same_size (λ s l. refl)

  pub rises_less : {j k : ℕ} {vs : List ℕ} → j ≤ k → Rises k vs → Rises j vs
  rises_less = rising_less heavy go cap (num old)

  -- by an arrow, or round a loop in which time passes
  pub rises_moved :
      {k : ℕ} {vs new : List ℕ} → (climb.leap ≡ true → n ≤ k) → Rises k vs → Moved (Raise climb) chart m go vs new →
      Rises k new
  unfolding offer_of leaps_of ceiling_of
  rises_moved late f none = f
  rises_moved {k} late f (more {vs = us} t i l y h) =
      subst (λ o. Rises k (set us a.start (reached_of (Raise climb) o))) (sym same)
      (rising_offer heavy go cap (num old) climb.leap (λ e. omega (arith, late e, has_states p)) (weighing ticks a)
      (Memᴰ.map (weighing ticks) (arrow_mem chart i (subst (λ k. i < k) p.arrows l))) (rises_moved late f t) y some
      (omega (arith, same, h)))
    where
      a : Arrow
      a = arrow_at chart i

      some : 1 ≤ num us a.end
      some = gains cap (weight ticks a.most) (num us a.end) h

      same : gain cap (weight ticks a.most) (num us a.end) ≡ offer cap (weight ticks a.most) (num us a.end)
      same = offers_all cap (weight ticks a.most) (num us a.end) some
  rises_moved {k} late f (leap {vs = us} t r l i h c) =
      let g = rises_moved late f t in
      rising_loop heavy go cap (num old) g r (omega (arith, g.size)) i h (c ticks).0 (c ticks).1

  offered :
      {vs new : List ℕ} → ((i : ℕ) → i < m → Held (Raise climb) go (arrow_at chart i) vs new) →
      (a : Arrow) → Memᴰ a (map (weighing ticks) (chart_of chart).arrows) → Offered go cap a vs new
  unfolding offer_of
  offered {vs} {new} held a h =
      let w = Memᴰ.of_map (weighing ticks) (chart_of chart).arrows h in
      let x = arrow_of_lem chart w.0 w.1 in
      let y = subst (λ a. Held (Raise climb) go a vs new) (sym x.2)
      (held x.0 (subst (λ k. x.0 < k) (sym p.arrows) x.1)) in
      subst (λ c. Offered go cap c vs new) w.2
      (λ f k. omega (arith, y.is f, offers_all cap (weight ticks w.0.most) (num vs w.0.end) k))

  -- a sweep more
  pub rises_swept :
      {k : ℕ} {vs new : List ℕ} → Rises k vs → Rises k new →
      ((i : ℕ) → i < m → Held (Raise climb) go (arrow_at chart i) vs new) → Rises (suc k) new
  rises_swept f g held = rising_held heavy go cap (num old) f g (offered held)

  -- numbers that no arrow raises are what the rounds make
  pub rises_all :
      {k : ℕ} {new : List ℕ} → Rises k new → ((i : ℕ) → i < m → Held (Raise climb) go (arrow_at chart i) new new) →
      new ≡ raised (weighed ticks (chart_of chart).arrows) n cap go old
  unfolding greatest
  rises_all {new = new} f held =
      subst₂ (λ k us. new ≡ raised heavier k cap go us) (has_states p) all_numbers
      (greatest_is heavy go cap (num old) f (offered held)) ∙
      (weighed_rounds ticks true cap go n arrows (rounds (raise false go cap) n heavier old) ∙
      ap (rounds (raise true go cap) n (weighed ticks arrows)) (weighed_rounds ticks false cap go n arrows old))
    where
      arrows : List Arrow
      arrows = (chart_of chart).arrows

      heavier : List Arrow
      heavier = map (weighing ticks) arrows
