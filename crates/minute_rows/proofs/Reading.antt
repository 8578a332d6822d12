-- Where the number of a state stands, and what the code reads there.
use mathlib.Core.Path.{◌≡◌, refl, sym}
use mathlib.Core.List.{List}
use mathlib.Core.Bool.{Bool, true, false}
use Prim.Native.Nat.{ℕ, zero, suc, ◌+◌, ◌-◌, ◌*◌, ◌≤◌, ◌<◌}
use native.Mathlib.Omega.{arith}
use native.Mathlib.Nat.{mul-le-mul_right}
use lib.Dec.{ltb}
use mir.Val.{bool_byte}
use Rattle.model.specs.Engine.{num}
use Rattle.model.specs.Marks.{bit, flag}
use Rattle.minutes.specs.Table.{leads_by}
use Rattle.moves.specs.declared.Move.{Move}
use Rattle.moves.specs.Moves.{arrow_by}
use Rattle.minute_rows.specs.Numbers.{last_below}

-- the numbers of the rows up to one lie before its end
pub place : (n s : ℕ) {m minute : ℕ} → m ≤ minute → s < n → m * n + s < minute * n + n
place n s l h = omega (arith, mul-le-mul_right n l)

byte_bit : (b : Bool) → bool_byte b ≡ bit b
byte_bit true = refl
byte_bit false = refl

bit_above : (b : Bool) → ltb 0 (bit b) ≡ b
bit_above true = refl
bit_above false = refl

module _ (n : ℕ) (beyond numbers : List ℕ) (s : ℕ) where
  -- below the first row is the row beyond
  pub below_first : {minute : ℕ} → minute ≡ 0 → bool_byte (flag beyond s) ≡ last_below n beyond numbers s (suc minute)
  below_first e = rw e (byte_bit (flag beyond s))

  pub below_later :
      (minute : ℕ) → ¬ (minute ≡ 0) → num numbers ((minute - 1) * n + s) ≡ last_below n beyond numbers s (suc minute)
  below_later zero e = absurd (e refl)
  below_later (suc m) e = let z : suc m - 1 ≡ m = omega arith in rw z

module _ (n minute : ℕ) (beyond numbers : List ℕ) (w : Move) where
  -- every duration of the slot is more than is left
  pub leads_beyond :
      w.fewest ≤ w.most → minute < w.fewest →
      flag beyond w.end ≡ leads_by (last_below n beyond numbers w.end) (suc minute) (arrow_by w)
  leads_beyond slot l =
      let hi : suc minute - w.fewest ≡ 0 = omega arith in
      let lo : suc minute - w.most ≡ 0 = omega arith in
      rw (hi, lo) (sym (bit_above (flag beyond w.end)))

  -- the fewest leads to a row
  pub leads_row :
      w.fewest ≤ minute → (lowest : ℕ) → lowest ≡ suc minute - w.most →
      ltb lowest (num numbers ((minute - w.fewest) * n + w.end)) ≡
      leads_by (last_below n beyond numbers w.end) (suc minute) (arrow_by w)
  leads_row l lowest e =
      let hi : suc minute - w.fewest ≡ suc (minute - w.fewest) = omega arith in
      rw (hi, e)
