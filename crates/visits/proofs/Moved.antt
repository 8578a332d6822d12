-- Values that moved: none went back.
use mathlib.Core.Path.{sym}
use mathlib.Core.Bool.{Bool}
use mathlib.Core.List.{List}
use Prim.Native.Nat.{ℕ, ◌≤◌}
use native.Mathlib.Omega.{arith}
use lib.ListN.{set, length-set}
use Rattle.tctl.specs.Chart.{Arrow}
use Rattle.model.specs.Engine.{num}
use Rattle.model.proofs.Numbers.{set_elim, Below, below_refl, below_trans}
use Rattle.ways.specs.declared.Way.{Way}
use Rattle.ways.specs.Way.{ceiling_of, reached_of}
use Rattle.visits.specs.Moves.{arrow_at, offer_at, Held, Moved, none, more, leap}
use Rattle.ways.proofs.Offer.{offers_more, reaches}

-- a value that is set to more
set_more : {vs : List ℕ} (s v : ℕ) → num vs s ≤ v → Below vs (set vs s v)
set_more {vs} s v l =
    record {
      size = sym (length-set vs s v);
      le = set_elim (λ k x. num vs k ≤ x) vs s v l (λ k. omega arith);
    }

module _ {way : Way} {chart : List ℕ} {m : ℕ} {go : ℕ → Bool} where
  pub moved_below : {old new : List ℕ} → Moved way chart m go old new → Below old new
  moved_below none = below_refl _
  moved_below (more {vs} t i l y h) =
      below_trans (moved_below t)
      (set_more (arrow_at chart i).start (reached_of way (offer_at way chart i vs))
      (omega (arith, h, reaches way (arrow_at chart i) (num vs (arrow_at chart i).end))))
  moved_below (leap t r l i h c) = below_trans (moved_below t) (set_more r (ceiling_of way) (omega (arith, h)))

  pub moved_both :
      {us vs ws : List ℕ} → Moved way chart m go us vs → Moved way chart m go vs ws → Moved way chart m go us ws
  moved_both p none = p
  moved_both p (more q i l y h) = more (moved_both p q) i l y h
  moved_both p (leap q r l i h c) = leap (moved_both p q) r l i h c

-- what an arrow offers, its start still has when more was moved
pub held_on : {way : Way} {go : ℕ → Bool} {a : Arrow} {us vs ws : List ℕ} → Held way go a us vs → Below vs ws → Held way go a us ws
held_on {a = a} h p = record { is = λ y. omega (arith, h.is y, p.le a.start) }

-- and it has what the arrow offered before
pub held_from : {way : Way} {go : ℕ → Bool} {a : Arrow} {us vs ws : List ℕ} → Below us vs → Held way go a vs ws → Held way go a us ws
held_from {way} {a = a} {us} {vs} p h =
    record { is = λ y. omega (arith, h.is y, offers_more way a (num us a.end) (num vs a.end) (p.le a.end)) }
