-- The lines from a position on: its own, and those from the next on.
use mathlib.Core.Path.{◌≡◌, ap, ◌∙◌}
use mathlib.Core.Bool.{Bool}
use mathlib.Core.List.{List, [], ◌∷◌, ◌++◌}
use Prim.Native.Nat.{ℕ, suc, ◌+◌, ◌*◌, ◌/◌, ◌≤◌, ◌<◌}
use native.Mathlib.Omega.{arith}
use lib.ListN.{length, drop, drop_of_length-le}
use lib.Seq.{drop-cons}
use Rattle.base.proofs.Tabulate.{length_tabulate, get_d_tabulate}
use Rattle.words.specs.Word.{word, long}
use Rattle.shown.specs.Shown.{Position, place}
use Rattle.run_listing.specs.RunText.{step_line, end_line, lines_from, position_at, positions_of}

module _ (bytes : List ℕ) where
  -- the positions from i on
  abbrev pub from : ℕ → List Position
  from i = drop i (positions_of bytes)

  size : length (positions_of bytes) ≡ length bytes / 6
  size = length_tabulate (length bytes / 6) (position_at bytes)

  from_cons : (i : ℕ) → i < length bytes / 6 → from i ≡ position_at bytes i ∷ from (suc i)
  from_cons i h =
      drop-cons (positions_of bytes) i (place 0 0) (omega (arith, h, size)) ∙
      ap (λ (p : Position). p ∷ from (suc i)) (get_d_tabulate (length bytes / 6) (position_at bytes) (place 0 0) i h)

  from_none : (i : ℕ) → length bytes / 6 ≤ i → from i ≡ []
  from_none i h = drop_of_length-le (positions_of bytes) {i = i} (omega (arith, h, size))

  module _ (all : Bool) (c i moment : ℕ) where
    pub from_step :
        suc i < length bytes / 6 →
        lines_from all c moment (from i) ≡
        step_line (word bytes (6 * i)) moment (long bytes (6 * i + 2)) (word bytes (6 * suc i)) ++
        lines_from all c (moment + long bytes (6 * i + 2)) (from (suc i))
    unfolding lines_from
    from_step h = rw (from_cons i (omega arith), from_cons (suc i) h)

    pub from_last :
        suc i ≡ length bytes / 6 → lines_from all c moment (from i) ≡ end_line all c (word bytes (6 * i)) moment
    unfolding lines_from
    from_last e = rw (from_cons i (omega arith), from_none (suc i) (omega arith))
