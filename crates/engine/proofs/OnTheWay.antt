-- Numbers on either way, after k sweeps; in the end they are the model's.
use mathlib.Core.Path.{◌≡◌, refl, sym, ap, subst, ◌∙◌}
use mathlib.Core.Bool.{Bool, true, false, cond}
use mathlib.Core.List.{List}
use Prim.Native.Nat.{ℕ, suc, ◌≤◌, ◌<◌}
use native.Mathlib.Omega.{arith}
use lib.ListN.{length}
use Rattle.tctl.specs.Chart.{Arrow}
use Rattle.model.specs.Engine.{num}
use Rattle.chart.specs.Bytes.{chart_of}
use Rattle.chart.specs.Shape.{Passed}
use Rattle.chart.proofs.Reading.{arrow_ends}
use Rattle.model.specs.Weighed.{weighed_chart}
use Rattle.model.proofs.Rising.{Rising}
use Rattle.hints.specs.Values.{values}
use Rattle.hints.proofs.Values.{value_at, values_length}
use Rattle.ways.specs.declared.Way.{Way}
use Rattle.ways.specs.declared.Way.TheVariants.{Lower, Raise}
use Rattle.ways.specs.Way.{ceiling_of, Fits, offer_of}
use Rattle.visits.specs.Moves.{Ready, arrow_at, Held, Moved, left, Went}
use Rattle.visits.proofs.Went.{went_left, went_held}
use Rattle.engine.specs.Rest.{hurried_of, AtRest}
use Rattle.engine.specs.AsModel.{AsModel}
use Rattle.sweeps.specs.Sweep.{Still, Sweep, Sweeps}
use Rattle.walks.specs.Walk.{Walks}
use Rattle.std.specs.Prelude.{Option, Some, is_some, unwrap_or}
use Rattle.engine.proofs.Descent.{Falls, falls_none, falls_moved, falls_all}
use Rattle.engine.proofs.Ascent.{rises_none, rises_less, rises_moved, rises_swept, rises_all}

abbrev Model : Way → List ℕ → (ℕ → Bool) → ℕ → List ℕ → List ℕ → Type 0
Model Lower chart go k old new = Falls chart go old new
Model (Raise climb) chart go k old new =
    Rising (weighed_chart climb.ticks (chart_of chart)) go climb.cap (num old) k new

-- the numbers have their sides, and their values moved as the model's
pub record OnTheWay (way : Way) (chart : List ℕ) (go : ℕ → Bool) (k : ℕ) (old new : List ℕ) : Type 0 where
  pub ready : Ready way go new
  pub model : Model way chart go k (values old) (values new)

-- sides, and how far numbers can rise, do not depend on leaps
pub hurried_fits : (way : Way) (b : Bool) → Fits way → Fits (hurried_of way b)
hurried_fits Lower b f = f
hurried_fits (Raise climb) b f = f

hurried_left : (way : Way) (b : Bool) (vs : List ℕ) → left (hurried_of way b) vs ≡ left way vs
unfolding ceiling_of
hurried_left Lower b vs = refl
hurried_left (Raise climb) b vs = refl

ready_hurried : (way : Way) (b : Bool) {go : ℕ → Bool} {ns : List ℕ} → Ready way go ns → Ready (hurried_of way b) go ns
unfolding ceiling_of
ready_hurried Lower b r = r
ready_hurried (Raise climb) b r = record { sides = r.sides; within = r.within }

ready_slow : (way : Way) (b : Bool) {go : ℕ → Bool} {ns : List ℕ} → Ready (hurried_of way b) go ns → Ready way go ns
unfolding ceiling_of
ready_slow Lower b r = r
ready_slow (Raise climb) b r = record { sides = r.sides; within = r.within }

held_hurried :
    (way : Way) (b : Bool) {go : ℕ → Bool} {a : Arrow} {us vs : List ℕ} → Held way go a us vs → Held (hurried_of way b) go a us vs
unfolding offer_of
held_hurried Lower b h = h
held_hurried (Raise climb) b h = record { is = h.is }

held_slow :
    (way : Way) (b : Bool) {go : ℕ → Bool} {a : Arrow} {us vs : List ℕ} → Held (hurried_of way b) go a us vs → Held way go a us vs
unfolding offer_of
held_slow Lower b h = h
held_slow (Raise climb) b h = record { is = h.is }

-- what is known of arrows before the floor holds unless a value changed
pub still_kept :
    (way : Way) (chart : List ℕ) (go : ℕ → Bool) (floor : ℕ) (moved : Bool) {us vs : List ℕ} →
    (moved ≡ false → vs ≡ us) → Still way chart go 0 floor us → {k : ℕ} → k ≡ cond moved 0 floor → Still way chart go 0 k vs
still_kept way chart go floor true e h f i z l = absurd (let y : ⊥ = omega (arith, f) in y)
still_kept way chart go floor false e h f i z l =
    subst (λ vs. Held way go (arrow_at chart i) vs vs) (sym (e refl)) (h i z (omega (arith, f)))

module _
    (way : Way) {chart : List ℕ} {n m : ℕ} (p : Passed chart n m) (go : ℕ → Bool) (old : List ℕ) (size : length old ≡ n) where
  known : length (values old) ≡ n
  known = values_length old ∙ size

  begin : (way : Way) → Ready way go old → Model way chart go 0 (values old) (values old)
  begin Lower r = falls_none p go (values old) known (λ s. omega (arith, r.within s, value_at old s))
  begin (Raise climb) r = rises_none p go climb (values old) known

  pub way_none : Ready way go old → OnTheWay way chart go 0 old old
  way_none r = record { ready = r; model = begin way r }

  on :
      (way : Way) (k : ℕ) (b : Bool) (vs new : List ℕ) → (b ≡ true → n ≤ k) → Model way chart go k (values old) (values vs) →
      Moved (hurried_of way b) chart m go (values vs) (values new) → Model way chart go k (values old) (values new)
  on Lower k b vs new late f t = falls_moved p go (values old) known f t
  on (Raise climb) k b vs new late f t = rises_moved p go _ (values old) known late f t

  -- after more moves, with leaps after n sweeps at most
  way_more :
      {k : ℕ} {any : Bool} (b : Bool) {vs new : List ℕ} → (b ≡ true → n ≤ k) → OnTheWay way chart go k old vs →
      Went (hurried_of way b) chart m go any vs new → OnTheWay way chart go k old new
  way_more {k} b {vs} {new} late u w =
      record { ready = ready_slow way b w.ready; model = on way k b vs new late u.model w.moved }

  swept :
      (way : Way) (j k : ℕ) (b : Bool) (vs new : List ℕ) → j ≤ suc k → Model way chart go k (values old) (values vs) →
      Model way chart go k (values old) (values new) →
      ((i : ℕ) → i < m → Held (hurried_of way b) go (arrow_at chart i) (values vs) (values new)) →
      Model way chart go j (values old) (values new)
  swept Lower j k b vs new l f g held = g
  swept (Raise climb) j k b vs new l f g held =
      rises_less p go climb (values old) known l (rises_swept p go _ (values old) known f g held)

  end :
      (way : Way) (k : ℕ) (b : Bool) (new : List ℕ) → Model way chart go k (values old) (values new) →
      ((i : ℕ) → i < m → Held (hurried_of way b) go (arrow_at chart i) (values new) (values new)) →
      AsModel way chart n go old new
  end Lower k b new f held = record { is = falls_all p go (values old) known f held }
  end (Raise climb) k b new f held = record { is = rises_all p go _ (values old) known f held }

  -- numbers that no arrow raises are the model's
  pub way_rest :
      {k : ℕ} {r : Bool} (new : List ℕ) → r ≡ true → Fits way → length new ≡ n → OnTheWay way chart go k old new →
      AtRest r way new → AsModel way chart n go old new
  way_rest {k} new e fits same u rest =
      end way k false new u.model
      (λ i l.
      let ends = arrow_ends p i l in
      held_hurried way false
      (rest.held e fits go u.ready (arrow_at chart i) (omega (arith, same, ends.0)) (omega (arith, same, ends.1))))

  -- ── At a pace: with leaps, b, or without ──

  module _ {b : Bool} {k : ℕ} (late : b ≡ true → n ≤ k) where
    -- along the hints
    pub way_ran :
        {pace : Way} {moved : Bool} (vs new : List ℕ) → pace ≡ hurried_of way b → OnTheWay way chart go k old vs →
        Walks pace chart m moved vs new →
        OnTheWay way chart go k old new × (left way (values new) ≤ left way (values vs)) ×
        (moved ≡ false → values new ≡ values vs)
    way_ran {moved = moved} vs new e u runs =
        let ran = subst (λ pace. Walks pace chart m moved vs new) e runs go (ready_hurried way b u.ready) in
        let w = ran.2 in (
          way_more b late u w,
          omega (arith, went_left w, hurried_left way b (values new), hurried_left way b (values vs)),
          λ f. w.still (ran.1 f),
        )

    module _
        {pace : Way} {floor : ℕ} (vs new : List ℕ) (e : pace ≡ hurried_of way b) (u : OnTheWay way chart go k old vs)
        (still : Still way chart go 0 floor (values vs)) {last : Option ℕ} (sweeps : Sweeps pace chart m floor last vs new) where
      swept_at : Sweep (hurried_of way b) chart m go last vs new
      swept_at =
          (subst (λ pace. Sweeps pace chart m floor last vs new) e sweeps).made go (ready_hurried way b u.ready)
          (λ i z l. held_hurried way b (still i z l))

      -- numbers that a sweep did not change are the model's
      pub way_done : is_some last ≡ false → AsModel way chart n go old new
      way_done f =
          let w = subst (λ any. Went (hurried_of way b) chart m go any vs new) f swept_at.went in
          end way k b new (way_more b late u w).model (λ i l. went_held w (swept_at.held i l))

      -- after a sweep that did
      pub way_next :
          (j : ℕ) {floor : ℕ} → last ≡ Some floor → j ≤ suc k →
          OnTheWay way chart go j old new × (left way (values new) < left way (values vs)) ×
          Still way chart go 0 floor (values new)
      way_next j e l =
          let v = way_more b late u swept_at.went in
          let still = subst (λ last. Still (hurried_of way b) chart go 0 (unwrap_or last m) (values new)) e swept_at.still in (
            record { ready = v.ready; model = swept way j k b vs new l u.model v.model swept_at.held },
            omega (
              arith,
              swept_at.went.nearer (ap is_some e),
              hurried_left way b (values new),
              hurried_left way b (values vs),
            ),
            λ i z h. held_slow way b (still i z h),
          )
