-- A head that is passed: what it tells, and that nothing more is asked.
use mathlib.Core.Path.{◌≡◌}
use mathlib.Core.Logic.{◌↔◌}
use mathlib.Core.List.{List}
use mathlib.Core.Option.{none}
use Prim.Native.Nat.{ℕ, ◌≤◌}
use lib.ListN.{length}
use lib.Dec.{ltb}
use borrow.Author.Tests.{ltb-false, le-ltb}
use Rattle.outcome.specs.declared.Outcome.{Outcome}
use Rattle.outcome.specs.Refusal.{whole, first}
use Rattle.outcome.proofs.Whole.{whole_none, none_equal, equal_none}
use Rattle.outcome.specs.Met.{Unmet, end}
use Rattle.outcome.proofs.First.{Numbered, zero_iff, part_zero}
use Rattle.outcome.proofs.Unmet.{unmet_more, unmet_row}
use Rattle.head.specs.Head.{version, stated_length, head_rows, Headed}

module _ (number least : ℕ) (s : List ℕ) where
  headed : Unmet (head_rows number least s) → Headed least s
  headed u =
      let x = unmet_row u in
      let y = unmet_row x.1 in
      let z = unmet_row y.1 in
      record {
        enough = ltb-false (length s) least (whole_none (ltb (length s) least) x.0);
        version_one = none_equal (version s) 1 y.0;
        stated = none_equal (stated_length s) (length s) z.0;
      }

  unmet : Headed least s → Unmet (head_rows number least s)
  unmet h =
      let e : whole (ltb (length s) least) ≡ none = rw (le-ltb (length s) least h.enough) in
      unmet_more e (unmet_more (equal_none h.version_one) (unmet_more (equal_none h.stated) end))

  pub head_iff : Unmet (head_rows number least s) ↔ Headed least s
  head_iff = (headed, unmet)

-- at least as many bytes as were asked for
pub head_passed :
    (number least : ℕ) (s : List ℕ) {r : Outcome} →
    Numbered (head_rows number least s) →
    r ≡ first (head_rows number least s) →
    r.number ≡ 0 →
    least ≤ length s
head_passed number least s h e z =
    (headed number least s ((zero_iff (head_rows number least s) h).0 (part_zero (head_rows number least s) e z))).enough
