-- How many bytes a run takes.
use mathlib.Core.Path.{◌≡◌}
use mathlib.Core.List.{List, [], ◌∷◌}
use Prim.Native.Nat.{◌*◌}
use native.Mathlib.Omega.{arith}
use lib.ListN.{length}
use Rattle.shown.specs.Shown.{Position}
use Rattle.run_walk.specs.RunBytes.{run_bytes}

pub run_bytes_length : (run : List Position) → length (run_bytes run) ≡ 6 * length run
unfolding run_bytes
run_bytes_length [] = omega arith
run_bytes_length (x ∷ run) = omega (arith, run_bytes_length run)
