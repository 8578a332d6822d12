-- A run while it is written: what is there, and the rest.
use mathlib.Core.Path.{◌≡◌, sym, ap}
use mathlib.Core.List.{List, [], ◌∷◌}
use Prim.Native.Nat.{ℕ, suc, ◌+◌, ◌*◌, ◌≤◌, ◌<◌}
use native.Mathlib.Omega.{arith}
use native.Mathlib.Nat.{suc-mul, mul-le-mul_right}
use lib.ListN.{length}
use Rattle.append.specs.Piece.{Room, Appended}
use Rattle.append.proofs.Append.{appended_both, appended_text, appended_size}
use Rattle.shown.specs.Shown.{Position}
use Rattle.step_numbers.specs.declared.Measure.{Measure}
use Rattle.step_table.specs.Table.{RowLow}
use Rattle.run_walk.specs.RunBytes.{position_bytes, run_bytes}
use Rattle.run_walk.specs.Walk.{Walkable}

-- the rows j and j + 1 are among the rows 0 to k
pub rows_low :
    {measure : Measure} {chart table out : List ℕ} {n m k s : ℕ} → Walkable measure chart n m k s table out →
    (j : ℕ) → j < k → RowLow n (j * n) table
rows_low {n = n} {k = k} w j l =
    let up : suc (suc j) * n ≤ suc k * n = mul-le-mul_right n (omega arith) in
    let e = suc-mul j n in
    let f = suc-mul (suc j) n in
    record {
      room = omega (arith, up, e, f, w.rows);
      low = λ i h. w.low (j * n + i) (omega (arith, up, e, f));
    }

-- the bytes of the rest are missing from `end` on, and with them it is the whole run
pub record Rest (run : List Position) (old out : List ℕ) (end : ℕ) (rest : List Position) : Type 0 where
  pub room : end + 6 * length rest ≤ length out
  pub whole :
      {r : ℕ} {new : List ℕ} → Appended end (run_bytes rest) r out new → Appended 0 (run_bytes run) r old new

pub rest_all : {run : List Position} {old : List ℕ} → 6 * length run ≤ length old → Rest run old old 0 run
rest_all h = record { room = omega (arith, h); whole = λ p. p }

module _ {run : List Position} {old out : List ℕ} {end : ℕ} {rest : List Position} (h : Rest run old out end rest) where
  pub rest_room : (x : Position) {more : List Position} → rest ≡ x ∷ more → Room end (position_bytes x) out
  rest_room x e = record { fits = omega (arith, h.room, ap length e) }

  -- One position more: the bytes of what was left are those of this position and of what is left after it, so whoever
  -- appends the latter has appended both.
  pub rest_less :
      {x : Position} {more : List Position} {new : List ℕ} {r : ℕ} → rest ≡ x ∷ more →
      Appended end (position_bytes x) r out new → Rest run old new r more
  unfolding run_bytes
  rest_less e p =
      record {
        room = omega (arith, h.room, ap length e, p.end, appended_size p);
        whole = λ q. h.whole (appended_text (ap run_bytes (sym e)) (appended_both p q));
      }

  -- the last position
  pub rest_none :
      {x : Position} {new : List ℕ} {r : ℕ} → rest ≡ x ∷ [] → Appended end (position_bytes x) r out new →
      Appended 0 (run_bytes run) r old new
  unfolding run_bytes
  rest_none e p = h.whole (appended_text (ap run_bytes (sym e)) p)
