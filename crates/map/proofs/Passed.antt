-- What the rows of a map that are passed tell of its bytes.
use mathlib.Core.Path.{◌≡◌}
use mathlib.Core.List.{List, [], ◌∷◌}
use Prim.Native.Nat.{ℕ, ◌+◌, ◌*◌, ◌≤◌}
use native.Mathlib.Omega.{arith}
use lib.ListN.{length}
use lib.Dec.{leb}
use borrow.Author.Tests.{leb-false}
use Rattle.outcome.specs.declared.Outcome.{Outcome}
use Rattle.outcome.specs.Refusal.{first}
use Rattle.outcome.proofs.Lowest.{none_below}
use Rattle.outcome.proofs.First.{part_zero, unmet_at}
use Rattle.map.specs.Bytes.{entry}
use Rattle.map.specs.Refusals.{form_row, entry_row}
use Rattle.map.specs.Shape.{Mapped}
use Rattle.map.proofs.Format.{format_iff}

module _ (p : List ℕ) (n : ℕ) where
  -- row 20
  pub map_whole : {f : Outcome} → f ≡ first (form_row p n ∷ []) → f.number ≡ 0 → 7 + 2 * n ≤ length p
  map_whole form z =
      let x = (format_iff p n).0 (unmet_at (form_row p n ∷ []) tt (part_zero (form_row p n ∷ []) form z) 0) in
      omega (arith, x.whole, x.count)

  -- row 21
  pub mapped :
      {k : ℕ} {g : Outcome} → 7 + 2 * n ≤ length p → g ≡ first (entry_row p n k ∷ []) → g.number ≡ 0 → Mapped p n k
  mapped {k} whole entries z =
      let unmet = unmet_at (entry_row p n k ∷ []) tt (part_zero (entry_row p n k ∷ []) entries z) 0 in
      record {
        whole = whole;
        inside = λ v l. leb-false k (entry p v) (none_below (λ v. leb k (entry p v)) n unmet v l);
      }
