-- A row of a table of marks lies inside it.
use Prim.Native.Nat.{ℕ, suc, ◌+◌, ◌*◌, ◌≤◌, ◌<◌}
use native.Mathlib.Nat.{mul-le-mul_right, suc-mul}
use native.Mathlib.Omega.{arith}

pub row_inside : (t k n : ℕ) {size : ℕ} → t < k → k * n ≤ size → t * n + n ≤ size
row_inside t k n l h = omega (arith, h, mul-le-mul_right n (let e : suc t ≤ k = omega arith in e), suc-mul t n)
