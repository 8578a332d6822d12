-- Reading an arrow.
use mathlib.Core.Path.{◌≡◌}
use mathlib.Core.List.{List}
use Prim.Native.Nat.{ℕ, ◌+◌, ◌*◌, ◌<◌}
use native.Mathlib.Omega.{arith}
use Rattle.words.specs.Word.{word}
use Rattle.chart.specs.declared.ArrowWords.{ArrowWords}
use Rattle.chart.specs.Bytes.{state_count, arrow_words}
use Rattle.chart.specs.Shape.{Shape, Inside}

-- in the shape that checks 1 to 6 leave, each arrow lies in the bytes
pub arrow_inside : {s : List ℕ} {n m i : ℕ} → Shape s n m → i < m → Inside s n i
arrow_inside h l = record { states = h.states; whole = omega (arith, h.arrows, h.whole) }

-- the four words at the arrow's place are the arrow's
pub arrow_read :
    (s : List ℕ) (i : ℕ) {n a b d e : ℕ} → n ≡ state_count s →
    a ≡ word s (9 + 2 * n + 8 * i) →
    b ≡ word s (9 + 2 * n + 8 * i + 2) →
    d ≡ word s (9 + 2 * n + 8 * i + 4) →
    e ≡ word s (9 + 2 * n + 8 * i + 6) →
    ◌≡◌ {A = ArrowWords} (record { start = a; end = b; fewest = d; most = e }) (arrow_words s i)
unfolding arrow_words
arrow_read s i known f g h k = cc
