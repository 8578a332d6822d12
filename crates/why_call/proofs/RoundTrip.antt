-- A run as bytes tells the run.
use mathlib.Core.Path.{◌≡◌, refl, ◌∙◌}
use mathlib.Core.List.{List, [], ◌∷◌}
use Prim.Native.Nat.{◌+◌, ◌*◌, ◌/◌, ◌%◌}
use native.Mathlib.Omega.{arith}
use Rattle.base.specs.Tabulate.{tabulate}
use Rattle.shown.specs.Shown.{Position}
use Rattle.run_walk.specs.RunBytes.{run_bytes}
use Rattle.run_listing.specs.RunText.{positions_of}
use Rattle.run_listing.proofs.Told.{positions_cons}

-- six bytes a position, and big-endian numbers are read as they were written
pub positions_back : (run : List Position) → positions_of (run_bytes run) ≡ run
unfolding run_bytes tabulate
positions_back [] = refl
positions_back (x ∷ run) =
    let s = x.state in
    let d = x.duration in
    let state : s / 256 * 256 + s % 256 ≡ s = omega arith in
    let duration :
    (d / 65536 / 256 * 256 + d / 65536 % 256) * 65536 + (d % 65536 / 256 * 256 + d % 65536 % 256) ≡ d =
    omega arith
    in
    positions_cons _ _ _ _ _ _ (run_bytes run) ∙ rw (state, duration, positions_back run)
