-- The test `no_timed_loop` is right: it says no just of the states that reach a loop on which time can pass.
use mathlib.Core.Path.{◌≡◌, refl, sym, ap, ◌∙◌}
use mathlib.Core.Logic.Iff
use mathlib.Core.Logic.{◌↔◌, ◌⊎◌, inl, inr, ⊎_elim}
use mathlib.Core.List.{List, [], ◌∷◌}
use mathlib.Core.List.Memᴰ
use mathlib.Core.List.{Memᴰ}
use mathlib.Core.Bool.{Bool, true, false, not}
use Prim.Native.Nat.{ℕ}
use borrow.Author.Tests.{ltb-true, lt-ltb, not-false}
use Rattle.base.proofs.Truth.{true_or_false, not_iff, both_iff, either_iff}
use Rattle.base.proofs.Compare.{eqb_iff}
use Rattle.base.proofs.Every.{every_true, every_false}
use Rattle.tctl.specs.Chart.{Chart, Arrow, Most, up_to, no_end, Within}
use Rattle.tctl.specs.Run.{Step}
use Rattle.tctl.specs.Path.{Path, stop, step, Any, To}
use Rattle.tctl.specs.Accepted.{AboveZero, ReachesTimedLoop}
use Rattle.tctl.proofs.Drawn.{Drawn, at_fewest}
use Rattle.tctl.proofs.Path.{cast, append}
use Rattle.model.specs.TimedLoop.{leads, is_above_zero, on_timed_loop, no_timed_loop}

module _ (labels : List ℕ) where
  abbrev chart : List Arrow → Chart
  chart l = record { labels = labels; arrows = l }

  -- a path from s to t by arrows of the list
  abbrev Way : List Arrow → ℕ → ℕ → Type 0
  Way l s t = Path (chart l) Any (To t) s

  -- s reaches the arrow a, and its end reaches t
  abbrev Through : Arrow → List Arrow → ℕ → ℕ → Type 0
  Through a l s t = Way l s a.start × Way l a.end t

  -- ── Ways put together ──

  -- the step, by an arrow that is in another list too
  abbrev again : {l k : List Arrow} {s d t : ℕ} (x : Step (chart l) s d t) → Memᴰ x.arrow k → Step (chart k) s d t
  again x m =
      record {
        arrow = x.arrow;
        drawn = m;
        leaves = x.leaves;
        enters = x.enters;
        least = x.least;
        greatest = x.greatest;
      }

  -- with one more arrow in the list
  more : {a : Arrow} {l : List Arrow} {t s : ℕ} → Way l s t → Way (a ∷ l) s t
  more (stop e) = stop e
  more (step g x p) = step g (again x (Memᴰ.tail x.drawn)) (more p)

  join :
      (a : Arrow) {l : List Arrow} {s t : ℕ} → Within a.fewest a.most → Way l s t ⊎ Through a l s t → Way (a ∷ l) s t
  join a w (inl p) = more p
  join a w (inr (p, q)) = append a.start (more p) (step tt (at_fewest a (Memᴰ.head refl) w) (more q))

  -- ── Ways taken apart ──

  -- What follows the first step does without a, or goes through a. If the step is by a itself, the way goes through a
  -- and on with what follows, from its last a on. If it is by an arrow of the list, it goes in front of what is found.
  split : {a : Arrow} {l : List Arrow} {t s : ℕ} → Way (a ∷ l) s t → Way l s t ⊎ Through a l s t
  split (stop e) = inl (stop e)
  split {a} {l} {t = t} (step {s} {t = u} g x p) = turn (Memᴰ.cases_cons x.drawn) (split p)
    where
      turn : (x.arrow ≡ a) ⊎ Memᴰ x.arrow l → Way l u t ⊎ Through a l u t → Way l s t ⊎ Through a l s t
      turn (inl i) (inl q) =
          let leaves : s ≡ a.start = sym x.leaves ∙ ap (λ c. c.start) i in
          inr (stop leaves, cast (sym (ap (λ c. c.end) i) ∙ x.enters) q)
      turn (inl i) (inr w) = inr (stop (sym x.leaves ∙ ap (λ c. c.start) i), w.1)
      turn (inr m) (inl q) = inl (step tt (again x m) q)
      turn (inr m) (inr w) = inr (step tt (again x m) w.0, w.1)

  no_step : {s t : ℕ} → Way [] s t → s ≡ t
  no_step (stop e) = e
  no_step (step g x p) = absurd (Memᴰ.not-nil x.drawn)

  -- By induction on the list: its first arrow need be taken only once.
  leads_iff :
      (l : List Arrow) → ((a : Arrow) → Memᴰ a l → Within a.fewest a.most) → (s t : ℕ) →
      (leads l s t ≡ true) ↔ Way l s t
  unfolding leads
  leads_iff [] w s t = Iff.trans (eqb_iff s t) (stop, no_step)
  leads_iff (a ∷ l) w s t =
      let rest = leads_iff l (λ b m. w b (Memᴰ.tail m)) in
      let through = both_iff (rest s a.start) (rest a.end t) in
      Iff.trans (either_iff (rest s t) through) (join a (w a (Memᴰ.head refl)), split)

above_zero_iff : (m : Most) → (is_above_zero m ≡ true) ↔ AboveZero m
above_zero_iff (up_to m) = (ltb-true 0 m, lt-ltb 0 m)
above_zero_iff no_end = (λ e. tt, λ h. refl)

module _ {G : Chart} (dr : Drawn G) (s : ℕ) where
  -- the arrow's part of what the test asks
  on_iff :
      (a : Arrow) →
      (on_timed_loop G.arrows s a ≡ true) ↔
      ((AboveZero a.most × Path G Any (To a.start) s) × Path G Any (To a.start) a.end)
  on_iff a =
      let way = leads_iff G.labels G.arrows dr.slots in
      both_iff (both_iff (above_zero_iff a.most) (way s a.start)) (way a.end a.start)

  -- The test says no of s just if it says no of some arrow: that one has most above 0, is reached, and is on a loop.
  pub no_timed_loop_iff : (no_timed_loop G s ≡ false) ↔ ReachesTimedLoop G s
  no_timed_loop_iff = (down, up)
    where
      test : Arrow → Bool
      test a = not (on_timed_loop G.arrows s a)

      down : no_timed_loop G s ≡ false → ReachesTimedLoop G s
      down e =
          let w = every_false test G.arrows e in
          let h = (on_iff w.0).0 (not-false (on_timed_loop G.arrows s w.0) w.2) in
          record { arrow = w.0; drawn = w.1; timed = h.0.0; reached = h.0.1; back = h.1 }

      up : ReachesTimedLoop G s → no_timed_loop G s ≡ false
      up h =
          let on = (on_iff h.arrow).1 ((h.timed, h.reached), h.back) in
          let denied : no_timed_loop G s ≡ true → ⊥ =
          λ e. (not_iff (on_timed_loop G.arrows s h.arrow)).0 (every_true test G.arrows e h.drawn) on in
          ⊎_elim (λ e. absurd (denied e)) (λ e. e) (true_or_false (no_timed_loop G s))
