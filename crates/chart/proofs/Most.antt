-- What a word that is not 0 says of the most minutes.
use mathlib.Core.Path.{◌≡◌, refl}
use Prim.Native.Nat.{ℕ, zero, suc}
use Rattle.base.proofs.Truth.{cond_elim}
use Rattle.tctl.specs.Chart.{Most, up_to, no_end}
use Rattle.chart.specs.Bytes.{is_no_end, most_of}

-- no end, or a minute at least
pub most_elim :
    (P : Most → Type 0) → P no_end → ((k : ℕ) → P (up_to (suc k))) → (w : ℕ) → ¬ (w ≡ 0) → P (most_of w)
most_elim P free some zero h = absurd (h refl)
most_elim P free some (suc w) h = cond_elim P (is_no_end (suc w)) (λ e. free) (λ e. some w)
