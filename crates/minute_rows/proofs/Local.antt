-- What the numbers say of a row goes by the numbers of that row.
use mathlib.Core.Path.{◌≡◌, refl, ap}
use mathlib.Core.List.{List}
use Prim.Native.Nat.{ℕ, zero, suc, ◌+◌, ◌*◌, ◌≤◌, ◌<◌}
use native.Mathlib.Omega.{arith}
use lib.Dec.{eqb}
use Rattle.model.specs.Engine.{num}
use Rattle.model.proofs.Marks.{row_below}
use Rattle.minute_rows.specs.Numbers.{last_below, answer}

module _ (n minute : ℕ) (beyond old new : List ℕ) (same : (j : ℕ) → j < minute * n → num new j ≡ num old j) where
  -- the rows below stay
  stays : (m s : ℕ) → m < minute → s < n → num new (m * n + s) ≡ num old (m * n + s)
  stays m s l h = same (m * n + s) (omega (arith, row_below n l))

  pub last_local : (k s : ℕ) → k ≤ suc minute → s < n → last_below n beyond new s k ≡ last_below n beyond old s k
  last_local zero s l h = refl
  last_local (suc zero) s l h = refl
  last_local (suc (suc m)) s l h = stays m s (omega arith) h

  pub answer_local : (r s : ℕ) → r ≤ minute → s < n → answer n beyond new r s ≡ answer n beyond old r s
  answer_local zero s l h = refl
  answer_local (suc m) s l h = ap (λ v. eqb v (suc (suc m))) (stays m s l h)
