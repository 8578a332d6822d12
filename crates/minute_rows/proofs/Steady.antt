-- When a bound is met: an exact one with no minute left and then no more, any other with each number of minutes or with
-- none.
use mathlib.Core.Path.{◌≡◌, refl, sym}
use mathlib.Core.Bool.{true, false, false≢true}
use mathlib.Core.List.{List}
use Prim.Native.Nat.{ℕ, ◌≤◌}
use native.Mathlib.Omega.{arith}
use borrow.Author.Tests.{ne_eqb}
use Rattle.chart.specs.Bytes.{chart_of}
use Rattle.minutes.specs.Makes.{Task}
use Rattle.minutes.specs.Untils.{met_with}
use Rattle.minute_rows.specs.declared.Met.{Met}
use Rattle.minute_rows.specs.declared.Met.TheVariants.{Always, AtEnd, Never}
use Rattle.minute_rows.specs.Numbers.{bare, end_only}
use Rattle.minute_rows.specs.Filled.{RowsFilled}

pub met_later :
    (met : Met) → end_only met ≡ true → (m : ℕ) → 1 ≤ m → met_with (bare met) 1 ≡ met_with (bare met) m
met_later Always e m h = refl
met_later AtEnd e m h = sym (ne_eqb m 0 (λ z. omega arith))
met_later Never e m h = refl

pub met_throughout : (met : Met) → end_only met ≡ false → (m : ℕ) → met_with (bare met) 0 ≡ met_with (bare met) m
met_throughout Always e m = refl
met_throughout AtEnd e m = absurd (false≢true (sym e))
met_throughout Never e m = refl

-- no row is filled
pub none_filled : (chart : List ℕ) (n : ℕ) (w : Task) (numbers : List ℕ) → RowsFilled (chart_of chart) n w 0 numbers
none_filled chart n w numbers = record { last = λ m s l. absurd (let z : ⊥ = omega arith in z) }
