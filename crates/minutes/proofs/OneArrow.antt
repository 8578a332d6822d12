-- "The fact about one minute and one arrow": the test of one number finds the slot's durations that lead on, whatever
-- the rows say, and so for every bound.
use mathlib.Core.Path.{◌≡◌, subst}
use mathlib.Core.Logic.{◌↔◌}
use mathlib.Core.Bool.{Bool, true}
use Prim.Native.Nat.{ℕ, suc, ◌-◌, ◌≤◌, max}
use native.Mathlib.Omega.{arith}
use borrow.Author.Tests.{ltb-true, lt-ltb}
use Rattle.tctl.specs.Chart.{Arrow, Most, up_to, no_end, Within}
use Rattle.minutes.specs.Table.{latest, farthest, leads}
use Rattle.minutes.proofs.Latest.{latest_window}

-- a duration of the slot that leads on
pub record Leads (f : ℕ → Bool) (r : ℕ) (a : Arrow) : Type 0 where
  pub minutes : ℕ
  pub least : a.fewest ≤ minutes
  pub greatest : Within minutes a.most
  pub on : f (r - minutes) ≡ true

-- the duration to row i, or the fewest where that is more
within_lowest : (n : Most) (r i f : ℕ) → Within f n → farthest r n ≤ i → Within (max (r - i) f) n
within_lowest (up_to g) r i f h k = omega arith
within_lowest no_end r i f h k = tt

lowest_within : (n : Most) (r d : ℕ) → Within d n → farthest r n ≤ r - d
lowest_within (up_to g) r d h = omega arith
lowest_within no_end r d h = omega arith

-- The durations of the slot lead to just the rows from `farthest` to r - fewest: to row i leads r - i, or the fewest
-- where that is more, which is so at row 0 alone.
pub leads_iff :
    (f : ℕ → Bool) (r : ℕ) (a : Arrow) → Within a.fewest a.most → (leads f r a ≡ true) ↔ Leads f r a
leads_iff f r a slot = (down, up)
  where
    lo : ℕ
    lo = farthest r a.most

    hi : ℕ
    hi = suc (r - a.fewest)

    down : leads f r a ≡ true → Leads f r a
    down h =
        let w = (latest_window f lo hi).0 (ltb-true lo (latest f hi) h) in
        let i = w.0 in
        let back : i ≡ r - max (r - i) a.fewest = omega (arith, w.2) in
        record {
          minutes = max (r - i) a.fewest;
          least = omega arith;
          greatest = within_lowest a.most r i a.fewest slot w.1;
          on = subst (λ j. f j ≡ true) back w.3;
        }

    up : Leads f r a → leads f r a ≡ true
    up d =
        let l = d.least in
        lt-ltb lo (latest f hi)
        ((latest_window f lo hi).1
        (r - d.minutes, lowest_within a.most r d.minutes d.greatest, omega arith, d.on))
