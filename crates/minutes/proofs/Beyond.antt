-- The row beyond is as the task says: nothing goes on from there.
use mathlib.Core.Path.{◌≡◌, refl, ◌∙◌}
use mathlib.Core.Bool.{Bool, true, false, ◌||◌}
use mathlib.Core.List.{List}
use Prim.Native.Nat.{ℕ, zero, suc}
use Rattle.tctl.specs.Chart.{Arrow}
use Rattle.minutes.specs.Makes.{Task}
use Rattle.minutes.specs.Table.{reached, rows_below, makes}

or_no : (b : Bool) → (b || false) ≡ b
or_no true = refl
or_no false = refl

beyond_reached :
    (arrows : List Arrow) (w : Task) (old : ℕ → ℕ → Bool) (k s : ℕ) → reached arrows w old 0 k s ≡ w.beyond s
unfolding reached
beyond_reached arrows w old zero s = refl
beyond_reached arrows w old (suc k) s = or_no (reached arrows w old 0 k s) ∙ beyond_reached arrows w old k s

pub makes_beyond : (arrows : List Arrow) (n : ℕ) (w : Task) (s : ℕ) → makes arrows n w 0 s ≡ w.beyond s
unfolding rows_below
makes_beyond arrows n w s = beyond_reached arrows w (rows_below arrows n w 0) n s
