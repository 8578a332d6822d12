-- The task that is asked, as its marks say.
use mathlib.Core.Path.{◌≡◌, refl}
use mathlib.Core.List.{List}
use Prim.Native.Nat.{ℕ, suc}
use Rattle.model.specs.Marks.{flag}
use Rattle.minutes.specs.Makes.{stops_at, goes_at}
use Rattle.moves.specs.Moves.{open_in}
use Rattle.minute_rows.specs.declared.Asked.{Asked}
use Rattle.minute_rows.specs.Numbers.{met_in, task_in, stops_by}

module _ (asked : Asked) (p q beyond : List ℕ) (m s : ℕ) where
  pub stops_in : stops_at (task_in asked p q beyond) (suc m) s ≡ stops_by asked.all (met_in asked m) (flag p s) (flag q s)
  stops_in = refl

  pub goes_in : goes_at (task_in asked p q beyond) (suc m) s ≡ open_in (met_in asked m) p q s
  goes_in = refl
