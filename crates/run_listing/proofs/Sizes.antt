-- How long a line is at most: 52 bytes.
use mathlib.Core.Bool.{Bool, true, false, cond}
use mathlib.Core.List.{List, ◌++◌}
use Prim.Native.Nat.{ℕ, suc, ◌+◌, ◌^◌, ◌≤◌, ◌<◌}
use native.Mathlib.Omega.{arith}
use lib.ListN.{length, length-append}
use lib.Dec.{ltb}
use Rattle.listing.specs.Text.{at_word, newline}
use Rattle.decimal.specs.Decimal.{decimal}
use Rattle.decimal.proofs.Decimal.{decimal_size}
use Rattle.run_listing.specs.RunText.{colon_word, minutes_word, met_word, above_word, neither_word}
use Rattle.run_listing.specs.RunText.{after, place_text, step_line, end_text, end_line}

after_size : (before : List ℕ) (d x : ℕ) → x < 10 ^ suc d → length (after before x) ≤ length before + suc d
unfolding after
after_size before d x h = omega (arith, decimal_size d x h, length-append before (decimal x))

place_size : (state moment : ℕ) → state < 10 ^ 5 → moment < 10 ^ 13 → length (place_text state moment) ≤ 22
unfolding place_text
place_size state moment h i =
    omega (
      arith,
      decimal_size 4 state h,
      after_size at_word 12 moment i,
      length-append (decimal state) (after at_word moment),
    )

pub step_size :
    (state moment duration next : ℕ) → state < 10 ^ 5 → moment < 10 ^ 13 → duration < 10 ^ 10 → next < 10 ^ 5 →
    length (step_line state moment duration next) ≤ 52
unfolding step_line
step_size state moment duration next h i j k =
    let placed = place_text state moment in
    let timed = placed ++ after colon_word duration in
    omega (
      arith,
      place_size state moment h i,
      after_size colon_word 9 duration j,
      after_size minutes_word 4 next k,
      length-append placed (after colon_word duration),
      length-append timed (after minutes_word next),
      length-append (timed ++ after minutes_word next) newline,
    )

end_text_size : (all : Bool) (c moment : ℕ) → c < 10 ^ 10 → moment < 10 ^ 13 → length (end_text all c moment) ≤ 28
unfolding end_text
end_text_size false c moment h i = omega (arith, after_size met_word 12 moment i)
end_text_size true c moment h i = turn (ltb c moment)
  where
    turn : (b : Bool) → length (cond b (after above_word c) neither_word) ≤ 28
    turn true = omega (arith, after_size above_word 9 c h)
    turn false = omega arith

pub end_size :
    (all : Bool) (c state moment : ℕ) → c < 10 ^ 10 → state < 10 ^ 5 → moment < 10 ^ 13 →
    length (end_line all c state moment) ≤ 52
unfolding end_line
end_size all c state moment h i j =
    let placed = place_text state moment in
    omega (
      arith,
      place_size state moment i j,
      end_text_size all c moment h j,
      length-append placed (end_text all c moment),
      length-append (placed ++ end_text all c moment) newline,
    )
