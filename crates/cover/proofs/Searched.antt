-- What comparing two states as one number says, and a search for a covering arrow.
use mathlib.Core.Path.{◌≡◌, ap}
use mathlib.Core.Logic.{◌↔◌}
use mathlib.Core.Bool.{Bool, true, false, ◌&&◌}
use mathlib.Core.List.{List}
use Prim.Native.Nat.{ℕ, ◌+◌, ◌*◌, ◌/◌, ◌%◌, ◌≤◌, ◌<◌}
use native.Mathlib.Decide.{dec_le}
use native.Mathlib.Omega.{arith}
use lib.Dec.{eqb}
use Rattle.std.specs.Prelude.{Option, Some, None}
use Rattle.std.specs.Option.{MatchOption}
use Rattle.base.proofs.Truth.{both_iff}
use Rattle.base.proofs.Compare.{eqb_iff}
use Rattle.tctl.specs.Chart.{Arrow}
use Rattle.outcome.specs.Refusal.{found}
use Rattle.outcome.proofs.Lowest.{lowest_none, offender_found}
use Rattle.chart.specs.Bytes.{arrow_count, arrow_words, arrow_of}
use Rattle.cover.specs.Search.{ends_word, Uncovered, CoverBetween, CoveredBy}
use Rattle.cover.specs.Covered.{covers, covered}

-- a number has one lowest byte, and one number above it
byte : (a p b q : ℕ) → a < 256 → b < 256 → a + p * 256 ≡ b + q * 256 → (a ≡ b) × (p ≡ q)
byte a p b q h i e = let above : p ≡ q = omega arith in (omega arith, above)

-- The words x and u, of two bytes, are the same, and so are y and v, just where they make the same number: byte by byte,
-- from the lowest on.
pub ends_iff :
    {x y u v : ℕ} → x < 65536 → y < 65536 → u < 65536 → v < 65536 →
    ((eqb x u && eqb y v) ≡ true) ↔ (ends_word x y ≡ ends_word u v)
ends_iff {x} {y} {u} {v} h i j k =
    let both = both_iff (eqb_iff x u) (eqb_iff y v) in (
      λ e. let w = both.0 e in rw (w.0, w.1),
      λ e.
          let a = byte (x / 256) _ (u / 256) _ (omega arith) (omega arith) e in
          let b = byte (x % 256) _ (u % 256) _ (omega arith) (omega arith) a.1 in
          let c = byte (y / 256) _ (v / 256) _ (omega arith) (omega arith) b.1 in
          both.1 (omega (arith, a.0, b.0), omega (arith, c)),
    )

module _ (o : List ℕ) (want : Arrow) where
  -- arrow j covers want
  abbrev test : ℕ → Bool
  test j = covers want (arrow_of (arrow_words o j))

  module _ {l : ℕ} (e : l ≡ arrow_count o) where
    -- an arrow below l that covers want
    found_below : (j : ℕ) → j < l → test j ≡ true → covered o want ≡ true
    unfolding covered
    found_below j h k = let below : j < arrow_count o = omega (arith, e) in offender_found test below k

    -- Every arrow is one from s on, where the first search passed it, or one before s, where the second did.
    found_nowhere : {s : ℕ} → Uncovered o want s l → Uncovered o want 0 s → covered o want ≡ false
    unfolding covered
    found_nowhere {s} after before = ap found (lowest_none test (arrow_count o) (λ j k. turn j k (dec_le s j)))
      where
        turn : (j : ℕ) → j < arrow_count o → Dec (s ≤ j) → test j ≡ false
        turn j k (yes d) = after j d (omega arith)
        turn j k (no d) = before j (omega arith) (omega arith)

    -- what a search from s on finds, or else one before s
    pub covered_by :
        {s : ℕ} (a r : Option ℕ) → s ≤ l → CoverBetween o want s l a →
        MatchOption a (CoverBetween o want 0 s r) (λ j. r ≡ Some j) → CoveredBy o want l r
    covered_by (Some j) r h p q = rw q (p.0, found_below j p.0 p.2)
    covered_by None (Some j) h p q = (omega (arith, q.0), found_below j (omega (arith, q.0)) q.2)
    covered_by None None h p q = found_nowhere p q
