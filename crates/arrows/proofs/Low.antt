-- The states of an arrow stand at its place.
use mathlib.Core.Path.{◌≡◌, sym, subst}
use mathlib.Core.List.{List}
use Prim.Native.Nat.{ℕ, ◌+◌, ◌*◌, ◌<◌}
use Rattle.words.specs.Word.{word}
use Rattle.chart.specs.Bytes.{state_count, arrow_words}
use Rattle.arrows.specs.Read.{Low}

pub low_words :
    (s : List ℕ) (i : ℕ) {n : ℕ} → n ≡ state_count s → Low (arrow_words s i) →
    (word s (9 + 2 * n + 8 * i) < 256) × (word s (9 + 2 * n + 8 * i + 2) < 256)
unfolding arrow_words
low_words s i known low =
    subst (λ n. (word s (9 + 2 * n + 8 * i) < 256) × (word s (9 + 2 * n + 8 * i + 2) < 256)) (sym known)
    (low.start, low.end)
