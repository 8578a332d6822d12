-- The positions that bytes tell, six bytes at a time.
use mathlib.Core.Path.{◌≡◌, ap}
use mathlib.Core.List.{List, ◌∷◌}
use Prim.Native.Nat.{ℕ, suc, ◌+◌, ◌*◌, ◌/◌}
use native.Mathlib.Omega.{arith}
use lib.ListN.{length, get_or}
use Rattle.base.specs.Tabulate.{tabulate}
use Rattle.base.proofs.Tabulate.{tabulate_same}
use Rattle.shown.specs.Shown.{Position, place}
use Rattle.run_listing.specs.RunText.{position_at, positions_of}

module _ (a b c d e f : ℕ) (rest : List ℕ) where
  abbrev bytes : List ℕ
  bytes = a ∷ b ∷ c ∷ d ∷ e ∷ f ∷ rest

  -- a byte after the first six
  later : {i j : ℕ} → i ≡ suc (suc (suc (suc (suc (suc j))))) → get_or bytes i 0 ≡ get_or rest j 0
  later h = rw h

  position_later : (i : ℕ) → position_at bytes (suc i) ≡ position_at rest i
  position_later i =
      let p = later {i = 6 * suc i} {j = 6 * i} (omega arith) in
      let q = later {i = 6 * suc i + 1} {j = 6 * i + 1} (omega arith) in
      let r = later {i = 6 * suc i + 2} {j = 6 * i + 2} (omega arith) in
      let s = later {i = 6 * suc i + 2 + 1} {j = 6 * i + 2 + 1} (omega arith) in
      let t = later {i = 6 * suc i + 2 + 2} {j = 6 * i + 2 + 2} (omega arith) in
      let u = later {i = 6 * suc i + 2 + 2 + 1} {j = 6 * i + 2 + 2 + 1} (omega arith) in
      cc

  -- the first six bytes tell the first position, the rest the others
  pub positions_cons :
      positions_of bytes ≡ place (a * 256 + b) ((c * 256 + d) * 65536 + (e * 256 + f)) ∷ positions_of rest
  unfolding tabulate
  positions_cons =
      let k : length bytes / 6 ≡ suc (length rest / 6) = omega arith in
      rw k
      (ap (λ (l : List Position). position_at bytes 0 ∷ l)
      (tabulate_same (length rest / 6) (λ i. position_at bytes (suc i)) (position_at rest) (λ i h. position_later i)))
