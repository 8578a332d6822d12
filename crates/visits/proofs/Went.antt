-- What became of the numbers: nothing, one number set, one thing after another.
use mathlib.Core.Path.{◌≡◌, refl, sym, subst, ap, ◌∙◌}
use mathlib.Core.Bool.{Bool, true, false, ◌||◌, false≢true}
use mathlib.Core.List.{List}
use Prim.Native.Nat.{ℕ, ◌-◌, ◌≤◌, ◌<◌}
use native.Mathlib.Omega.{arith}
use lib.ListN.{length, set, length-set}
use Rattle.base.proofs.Sum.{total_set}
use Rattle.base.proofs.Truth.{or_false}
use Rattle.tctl.specs.Chart.{Arrow}
use Rattle.model.specs.Engine.{num}
use Rattle.model.proofs.Numbers.{set_elim, Below}
use Rattle.hints.specs.Values.{value_of, tested_of, values}
use Rattle.hints.proofs.Values.{values_set, values_length}
use Rattle.ways.specs.declared.Way.{Way}
use Rattle.ways.specs.Way.{top, ceiling_of, side_of, beside}
use Rattle.visits.specs.Moves.{Given, Ready, Held, Moved, none, left, Went}
use Rattle.visits.proofs.Moved.{moved_below, moved_both}

module _ {way : Way} {chart : List ℕ} {m : ℕ} {go : ℕ → Bool} where
  pub went_none : {ns : List ℕ} → Ready way go ns → Went way chart m go false ns ns
  went_none r = record { ready = r; moved = none; still = λ e. refl; nearer = λ e. absurd (false≢true e) }

  -- the number of s is set to x, of the value u, with its side
  pub went_set :
      {ns : List ℕ} → Ready way go ns → (s x u : ℕ) → s < length ns → value_of x ≡ u → tested_of x ≡ beside u (side_of way go s u) →
      u ≤ top → num (values ns) s < u → u ≤ ceiling_of way → Moved way chart m go (values ns) (set (values ns) s u) →
      Went way chart m go true ns (set ns s x)
  went_set {ns} r s x u l e side low more high moved =
      record {
        ready =
            record {
              sides = λ k h.
                  set_elim (λ k y. k < length ns → tested_of y ≡ beside (value_of y) (side_of way go k (value_of y))) ns s x
                  (λ h. subst (λ u. tested_of x ≡ beside u (side_of way go s u)) (sym e) side) r.sides k
                  (omega (arith, length-set ns s x));
              within = set_elim (λ k y. value_of y ≤ top) ns s x (omega (arith, e)) r.within;
            };
        moved = subst (Moved way chart m go (values ns)) (sym is) moved;
        still = λ e. absurd (false≢true (sym e));
        nearer = λ w.
            omega (
              arith,
              ap (left way) is,
              total_set (λ v. ceiling_of way - v) (values ns) s u (omega (arith, values_length ns)),
            );
      }
    where
      is : values (set ns s x) ≡ set (values ns) s u
      is = values_set ns s x e

  pub went_below : {any : Bool} {old new : List ℕ} → Went way chart m go any old new → Below (values old) (values new)
  went_below w = moved_below w.moved

  pub went_size : {any : Bool} (old new : List ℕ) → Went way chart m go any old new → length new ≡ length old
  went_size old new w = sym (values_length new) ∙ sym (went_below w).size ∙ values_length old

  pub went_left : {any : Bool} {old new : List ℕ} → Went way chart m go any old new → left way (values new) ≤ left way (values old)
  went_left {any = true} w = omega (arith, w.nearer refl)
  went_left {any = false} w = omega (arith, ap (left way) (w.still refl))

  pub went_both :
      {b c : Bool} {old mid new : List ℕ} → Went way chart m go b old mid → Went way chart m go c mid new →
      Went way chart m go (b || c) old new
  went_both {b} {c} p q =
      record {
        ready = q.ready;
        moved = moved_both p.moved q.moved;
        still = λ e. q.still (or_false b c e).1 ∙ p.still (or_false b c e).0;
        nearer = near b c p q;
      }
    where
      near :
          (b c : Bool) {old mid new : List ℕ} → Went way chart m go b old mid → Went way chart m go c mid new →
          (b || c) ≡ true → left way (values new) < left way (values old)
      near true c p q e = omega (arith, p.nearer refl, went_left q)
      near false c p q e = omega (arith, ap (left way) (p.still refl), q.nearer e)

  -- where nothing changed, what the arrows had before they have now
  pub went_held :
      {a : Arrow} {old new : List ℕ} → Went way chart m go false old new → Held way go a (values old) (values new) →
      Held way go a (values new) (values new)
  went_held {a} {new = new} w h = subst (λ vs. Held way go a vs (values new)) (sym (w.still refl)) h

-- the same for as many numbers
pub given_still :
    {way : Way} {chart : List ℕ} {n m : ℕ} {us vs : List ℕ} → Given way chart n m us → length vs ≡ n → Given way chart n m vs
given_still g e = record { size = e; fits = g.fits }
