-- What is lent stays as long as it is.
use mathlib.Core.Path.{◌≡◌}
use mathlib.Core.List.{List}
use Prim.Native.Nat.{ℕ}
use native.Mathlib.Omega.{arith}
use lib.ListN.{length}
use Rattle.rule.specs.declared.NodeWords.{NodeWords}
use Rattle.until_minutes.specs.Minutes.{MinutesLent}

pub lent_still :
    {chart : List ℕ} {n m t : ℕ} {w : NodeWords} {marks numbers marks' numbers' : List ℕ} →
    MinutesLent chart n m t w marks numbers → length marks' ≡ length marks → length numbers' ≡ length numbers →
    MinutesLent chart n m t w marks' numbers'
lent_still l e f =
    record {
      passed = l.passed;
      table = omega (arith, l.table, e);
      operands = l.operands;
      room = omega (arith, l.room, f);
    }
