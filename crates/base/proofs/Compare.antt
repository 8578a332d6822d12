-- Tests of two numbers: what they decide, by their yes or by their no.
use mathlib.Core.Path.{◌≡◌, ap}
use mathlib.Core.Logic.{◌↔◌}
use mathlib.Core.Bool.{true, false, not}
use Prim.Native.Nat.{ℕ, ◌≤◌}
use lib.Dec.{eqb, leb, ltb}
use borrow.Author.Tests.{eqb-true, eq-eqb, leb-true, le-leb, ltb-false, le-ltb, not-false}

pub eqb_iff : (m n : ℕ) → (eqb m n ≡ true) ↔ (m ≡ n)
eqb_iff m n = (eqb-true m n, eq-eqb m n)

pub leb_iff : (m n : ℕ) → (leb m n ≡ true) ↔ (m ≤ n)
leb_iff m n = (leb-true m n, le-leb m n)

-- m is not under n
pub not_under_iff : (m n : ℕ) → (ltb m n ≡ false) ↔ (n ≤ m)
not_under_iff m n = (ltb-false m n, le-ltb m n)

-- m does not differ from n
pub not_differ_iff : (m n : ℕ) → (not (eqb m n) ≡ false) ↔ (m ≡ n)
not_differ_iff m n = (λ e. eqb-true m n (not-false (eqb m n) e), λ e. ap not (eq-eqb m n e))
