-- An arrow's slot capped at 256: up to row 256 it leads to the same rows.
use mathlib.Core.Path.{◌≡◌}
use Prim.Native.Nat.{ℕ, ◌-◌, ◌≤◌, min}
use native.Mathlib.Omega.{arith}
use Rattle.tctl.specs.Chart.{Arrow, Most, up_to, no_end}
use Rattle.minutes.specs.Table.{farthest, leads_by}
use Rattle.moves.specs.Moves.{capped_most, capped}

lowest_capped : (n : Most) (r : ℕ) → r ≤ 256 → r - capped_most n ≡ farthest r n
lowest_capped (up_to g) r h = omega arith
lowest_capped no_end r h = omega arith

-- what is capped leads to row 0, and so does 256
pub leads_capped : (last : ℕ → ℕ) (r : ℕ) (a : Arrow) → r ≤ 256 → leads_by last r (capped a) ≡ leads_by last r a
leads_capped last r a h =
    let low = lowest_capped a.most r h in
    let high : r - min 256 a.fewest ≡ r - a.fewest = omega arith in
    rw (low, high)
