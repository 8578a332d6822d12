-- Numbers that say of their own answers which is the last: by them an arrow leads on just where it does by the answers.
use mathlib.Core.Path.{◌≡◌, refl, ap, ◌∙◌}
use mathlib.Core.List.{List}
use Prim.Native.Nat.{ℕ, zero, suc, ◌-◌, ◌≤◌, ◌<◌}
use native.Mathlib.Omega.{arith}
use lib.Dec.{ltb}
use Rattle.tctl.specs.Chart.{Arrow}
use Rattle.minutes.specs.Table.{latest, farthest, leads}
use Rattle.moves.specs.Moves.{capped}
use Rattle.minute_rows.specs.Numbers.{last_below, answer}
use Rattle.minute_rows.specs.Filled.{leads_on, Latest}
use Rattle.minute_rows.proofs.Capped.{leads_capped}

module _ {n minute : ℕ} (beyond numbers : List ℕ) (last : Latest n minute beyond numbers) where
  last_latest :
      (k s : ℕ) → k ≤ suc (suc minute) → s < n →
      last_below n beyond numbers s k ≡ latest (λ r. answer n beyond numbers r s) k
  unfolding latest
  last_latest zero s l h = refl
  last_latest (suc zero) s l h = refl
  last_latest (suc (suc m)) s l h = last m s (omega arith) h

  pub leads_answers :
      (a : Arrow) → suc minute ≤ 256 → a.end < n →
      leads_on n minute beyond numbers (capped a) ≡ leads (λ r. answer n beyond numbers r a.end) (suc minute) a
  leads_answers a few h =
      leads_capped (last_below n beyond numbers a.end) (suc minute) a few ∙
      ap (ltb (farthest (suc minute) a.most)) (last_latest (suc (suc minute - a.fewest)) a.end (omega arith) h)
