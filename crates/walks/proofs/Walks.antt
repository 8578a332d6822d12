-- Numbers that moved, one run after another.
use mathlib.Core.Path.{◌≡◌, refl, sym, subst}
use mathlib.Core.Bool.{Bool, true, false, false≢true}
use mathlib.Core.List.{List}
use Prim.Native.Nat.{ℕ}
use Rattle.ways.specs.declared.Way.{Way}
use Rattle.visits.specs.Moves.{Goes}
use Rattle.visits.proofs.Went.{went_none, went_both}
use Rattle.walks.specs.Walk.{Walks, Remarked}
use Rattle.walks.proofs.Remarked.{marked_went}

module _ (way : Way) (chart : List ℕ) (m : ℕ) where
  pub runs_none : (moved : Bool) (ns : List ℕ) → Walks way chart m moved ns ns
  runs_none moved ns go r = (false, λ e. refl, went_none r)

  pub runs_marked : (moved : Bool) (us vs : List ℕ) → Remarked us vs → Walks way chart m moved us vs
  runs_marked moved us vs k go r = (false, λ e. refl, marked_went k r)

  pub runs_goes : (us vs : List ℕ) {any : Bool} → Goes way chart m any us vs → Walks way chart m any us vs
  runs_goes us vs {any} g go r = (any, λ e. e, g go r)

  pub runs_any : (us vs : List ℕ) {b : Bool} → Walks way chart m b us vs → Walks way chart m true us vs
  runs_any us vs p go r = let w = p go r in (w.0, λ e. absurd (false≢true (sym e)), w.2)

  pub runs_as : (us vs : List ℕ) {b c : Bool} → b ≡ c → Walks way chart m b us vs → Walks way chart m c us vs
  runs_as us vs e p = subst (λ b. Walks way chart m b us vs) e p

  -- after more, anything may have changed
  pub runs_both :
      (us vs ws : List ℕ) {b c : Bool} → Walks way chart m b us vs → Walks way chart m c vs ws → Walks way chart m true us ws
  runs_both us vs ws p q go r =
      let first = p go r in
      let second = q go first.2.ready in
      (_, λ e. absurd (false≢true (sym e)), went_both first.2 second.2)
