-- A digit lies between "0" and "9".
use mathlib.Core.Path.{◌≡◌}
use mathlib.Core.Bool.{true}
use Prim.Native.Nat.{ℕ, ◌≤◌}
use lib.Dec.{leb}
use borrow.Author.Tests.{leb-true}
use Rattle.base.proofs.Truth.{and_iff}
use Rattle.decimal.specs.Value.{is_digit}

pub record Digit (b : ℕ) : Type 0 where
  pub low : 48 ≤ b
  pub high : b ≤ 57

pub digit_true : (b : ℕ) → is_digit b ≡ true → Digit b
digit_true b e =
    let h = (and_iff (leb 48 b) (leb b 57)).0 e in
    record { low = leb-true 48 b h.0; high = leb-true b 57 h.1 }
