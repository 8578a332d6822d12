-- The table by steps finds what is to be shown, whatever the quest, if it is lawful: its number of k steps is good just
-- where a shown run of k steps is, and the walk down the table is one.
use mathlib.Core.Path.{◌≡◌, refl, sym, subst}
use mathlib.Core.List.{List, Memᴰ}
use Prim.Native.Nat.{ℕ, zero, suc, ◌+◌, ◌≤◌}
use native.Mathlib.Omega.{arith}
use lib.ListN.{length}
use lib.Dec.{eqb}
use borrow.Author.Tests.{eqb-true}
use Rattle.base.specs.Yes.{Yes}
use Rattle.base.proofs.Truth.{and_iff}
use Rattle.tctl.specs.Chart.{Chart, Arrow, Within}
use Rattle.tctl.specs.Run.{Step}
use Rattle.shown.specs.Shown.{Position}
use Rattle.shown.specs.Steps.{Quest, by_step, is_best, first_arrow, walk}
use Rattle.shown.proofs.Along.{Along, ends, goes, along_some}
use Rattle.shown.proofs.Best.{first_found}
use Rattle.shown.proofs.Table.{table_ge, table_found}

-- The worth v is good at the moment m. A better worth is good too; an arrow before it, taken in any of its minutes,
-- keeps it good; and if it is good with the arrow, it is good after the arrow's picked minutes, which lie in its slot.
pub record Lawful (G : Chart) (z : Quest) (Good : ℕ → ℕ → Type 0) : Type 0 where
  pub some : {m v : ℕ} → Good m v → 1 ≤ v
  pub more : {m v w : ℕ} → v ≤ w → Good m v → Good m w
  pub back :
      {m v d : ℕ} (a : Arrow) → a.fewest ≤ d → Within d a.most → Good (m + d) v → Good m (z.worth a v)
  pub on : {m v : ℕ} (a : Arrow) → Good m (z.worth a v) → Good (m + z.pick a) v
  pub low : (a : Arrow) → Memᴰ a G.arrows → a.fewest ≤ z.pick a
  pub high : (a : Arrow) → Memᴰ a G.arrows → Within (z.pick a) a.most

module _ {G : Chart} {z : Quest} {Good : ℕ → ℕ → Type 0} (law : Lawful G z Good) where
  -- A shown run makes its number good: by induction along it, for the row has what the arrow of the first step offers.
  pub along_good :
      {m s : ℕ} {shown : List Position} → Along G (λ m. Yes z.go) (λ m x. Good m (z.base x)) m s shown →
      (k : ℕ) → length shown ≡ suc k → Good m (by_step G.arrows z k s)
  unfolding by_step
  along_good (ends h) zero e = h
  along_good (ends h) (suc k) e = absurd (let z : ⊥ = omega arith in z)
  along_good (goes g x w) zero e = absurd (let z : ⊥ = omega (arith, along_some w) in z)
  along_good (goes g x w) (suc k) e =
      let y = along_good w k (omega arith) in
      law.more (table_ge G.arrows z x.drawn x.leaves x.enters g k)
      (law.back x.arrow x.least x.greatest y)

  -- A good number is walked down: some arrow has the number's worth, so the first_arrow that has it is an arrow of the chart,
  -- and after its picked minutes the number of a step less is good.
  pub good_walk :
      (k : ℕ) {m s : ℕ} → Good m (by_step G.arrows z k s) →
      Along G (λ m. Yes z.go) (λ m x. Good m (z.base x)) m s (walk G.arrows z k s)
  unfolding by_step walk
  good_walk zero h = ends h
  good_walk (suc k) {m} {s} h =
      let w = table_found G.arrows z k s (law.some h) in
      let a = first_arrow (is_best G.arrows z k s) G.arrows in
      let f = first_found (is_best G.arrows z k s) G.arrows w.2 w.3 in
      let worth = z.worth a (by_step G.arrows z k a.end) in
      let b = (and_iff (eqb a.start s) (eqb worth (by_step G.arrows z (suc k) s))).0 f.1 in
      let e = eqb-true worth (by_step G.arrows z (suc k) s) b.1 in
      let x : Step G s (z.pick a) a.end =
      record {
        arrow = a;
        drawn = f.0;
        leaves = eqb-true a.start s b.0;
        enters = refl;
        least = law.low a f.0;
        greatest = law.high a f.0;
      } in
      goes w.0 x (good_walk k (law.on a (subst (Good m) (sym e) h)))
