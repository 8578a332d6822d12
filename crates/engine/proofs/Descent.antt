-- Minutes that fall, kept as what they leave to the top, fall as the model's do, and in the end are the model's.
use mathlib.Core.Path.{◌≡◌, refl, sym, subst, subst₂, ap, ◌∙◌}
use mathlib.Core.Bool.{Bool, true}
use mathlib.Core.List.{List}
use Prim.Native.Nat.{ℕ, ◌+◌, ◌-◌, ◌≤◌, ◌<◌}
use native.Mathlib.Omega.{arith}
use lib.ListN.{length, set, length-map}
use Rattle.tctl.specs.Chart.{Arrow, states}
use Rattle.base.specs.Tabulate.{tabulate}
use Rattle.model.specs.Engine.{num, lowered}
use Rattle.model.proofs.Numbers.{tabulate_num, set_elim}
use Rattle.model.proofs.Lower.{Lowered}
use Rattle.model.proofs.Falling.{Falling, falling_start, falling_lower}
use Rattle.model.proofs.Least.{least_is}
use Rattle.chart.specs.Bytes.{chart_of}
use Rattle.chart.specs.Shape.{Passed}
use Rattle.chart.proofs.Chart.{arrow_mem, arrow_of_lem}
use Rattle.chart.proofs.Reading.{has_states, drawn, arrow_ends}
use Rattle.hints.proofs.Values.{map_set, num_map}
use Rattle.ways.specs.declared.Way.TheVariants.{Lower}
use Rattle.ways.specs.Way.{top, left_over, leaps_of, offer_of, reached_of}
use Rattle.visits.specs.Moves.{arrow_at, offer_at, Held, Moved, none, more, leap}

-- the minutes fell as the model's do, and no number is above the top
pub record Falls (chart : List ℕ) (go : ℕ → Bool) (old new : List ℕ) : Type 0 where
  pub falling : Falling (chart_of chart) go (num (left_over old)) (left_over new)
  pub within : (s : ℕ) → num new s ≤ top

module _ {chart : List ℕ} {n m : ℕ} (p : Passed chart n m) (go : ℕ → Bool) (old : List ℕ) (size : length old ≡ n) where
  same_size : length (left_over old) ≡ states (chart_of chart)
  same_size = length-map old _ ∙ size ∙ sym (has_states p)

  all_numbers : tabulate (states (chart_of chart)) (num (left_over old)) ≡ left_over old
  all_numbers = subst (λ k. tabulate k (num (left_over old)) ≡ left_over old) same_size (tabulate_num (left_over old))

  pub falls_none : ((s : ℕ) → num old s ≤ top) → Falls chart go old old
  falls_none low =
      record {
        falling = falling_start (drawn p) go (num (left_over old)) (left_over old) same_size (λ s l. refl);
        within = low;
      }

  -- as many numbers as states
  falls_size : {new : List ℕ} → Falls chart go old new → length new ≡ n
  falls_size {new} f = sym (length-map new _) ∙ f.falling.size ∙ has_states p

  minutes_at : {vs : List ℕ} → Falls chart go old vs → (s : ℕ) → s < n → num (left_over vs) s ≡ top - num vs s
  minutes_at {vs} f s l = num_map (λ v. top - v) vs s (omega (arith, falls_size f))

  -- What is left to the top becomes less by the fewest minutes, so the minutes become more by them.
  falls_more :
      {vs : List ℕ} → Falls chart go old vs → (i : ℕ) → i < m → go (arrow_at chart i).start ≡ true →
      num vs (arrow_at chart i).start < offer_at Lower chart i vs →
      Falls chart go old (set vs (arrow_at chart i).start (reached_of Lower (offer_at Lower chart i vs)))
  unfolding offer_of leaps_of
  falls_more {vs} f i l y h =
      record {
        falling =
            subst (Falling (chart_of chart) go (num (left_over old)))
            (sym (map_set (λ v. top - v) vs s u ∙ ap (set (left_over vs) s) (sym e)))
            (falling_lower (drawn p) go (num (left_over old)) a (arrow_mem chart i (subst (λ k. i < k) p.arrows l))
            f.falling y (omega (arith, e, minutes_at f s ends.0, f.within s, f.within a.end, h)));
        within = set_elim (λ k x. x ≤ top) vs s u (omega (arith, f.within a.end)) f.within;
      }
    where
      a : Arrow
      a = arrow_at chart i

      s : ℕ
      s = a.start

      ends : (s < n) × (a.end < n)
      ends = arrow_ends p i l

      u : ℕ
      u = num vs a.end - a.fewest

      e : a.fewest + num (left_over vs) a.end ≡ top - u
      e = omega (arith, minutes_at f a.end ends.1, f.within a.end, h)

  pub falls_moved : {vs new : List ℕ} → Falls chart go old vs → Moved Lower chart m go vs new → Falls chart go old new
  falls_moved f none = f
  falls_moved f (more t i l y h) = falls_more (falls_moved f t) i l y h
  falls_moved f (leap t r l i h c) = absurd c

  -- an arrow that raises no number lowers no minutes
  falls_quiet :
      {new : List ℕ} → Falls chart go old new → (i : ℕ) → i < m → Held Lower go (arrow_at chart i) new new →
      Lowered go (arrow_at chart i) (left_over new) (left_over new)
  unfolding offer_of
  falls_quiet f i l held y =
      let a = arrow_at chart i in
      let ends = arrow_ends p i l in
      omega (arith, held.is y, minutes_at f a.start ends.0, minutes_at f a.end ends.1, f.within a.end)

  -- numbers that no arrow raises are what n rounds make
  pub falls_all :
      {new : List ℕ} → Falls chart go old new → ((i : ℕ) → i < m → Held Lower go (arrow_at chart i) new new) →
      left_over new ≡ lowered (chart_of chart).arrows n go (left_over old)
  falls_all {new} f held =
      subst₂ (λ k us. left_over new ≡ lowered (chart_of chart).arrows k go us) (has_states p) all_numbers
      (least_is (drawn p) go (num (left_over old)) f.falling
      (λ a h.
      let w = arrow_of_lem chart a h in
      let l = subst (λ k. w.0 < k) (sym p.arrows) w.1 in
      subst (λ a. Lowered go a (left_over new) (left_over new)) (sym w.2) (falls_quiet f w.0 l (held w.0 l))))
