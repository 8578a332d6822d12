-- The tests of covered arrows decide what they test.
use mathlib.Core.Path.{◌≡◌, refl, subst}
use mathlib.Core.Logic.{◌↔◌}
use mathlib.Core.Bool.{Bool, true, false≢true}
use mathlib.Core.List.{List, Memᴰ}
use Prim.Native.Nat.{ℕ}
use Rattle.base.proofs.Truth.{both_iff}
use Rattle.base.proofs.Compare.{eqb_iff, leb_iff}
use Rattle.tctl.specs.Chart.{Arrow, Most, up_to, no_end}
use Rattle.tctl.specs.Detail.{Contains, Covers}
use Rattle.outcome.specs.Refusal.{lowest}
use Rattle.outcome.proofs.Found.{found_some}
use Rattle.outcome.proofs.Lowest.{some_lowest, offender_found}
use Rattle.chart.specs.Bytes.{arrow_count, arrow_words, arrow_of, chart_of}
use Rattle.chart.proofs.Chart.{arrow_mem, arrow_of_lem}
use Rattle.cover.specs.Covered.{contains, mapped_arrow, covers, covered}

contains_iff : (k m : Most) → (contains k m ≡ true) ↔ Contains k m
contains_iff no_end m = (λ e. tt, λ h. refl)
contains_iff (up_to k) (up_to m) = leb_iff m k
contains_iff (up_to k) no_end = (λ e. false≢true e, λ h. absurd h)

covers_iff : (f : ℕ → ℕ) (a b : Arrow) → (covers (mapped_arrow f a) b ≡ true) ↔ Covers f a b
covers_iff f a b =
    let ends = both_iff (eqb_iff b.start (f a.start)) (eqb_iff b.end (f a.end)) in
    let i = both_iff (both_iff ends (leb_iff b.fewest a.fewest)) (contains_iff b.most a.most) in (
      λ e. let w = i.0 e in record { leaves = w.0.0.0; enters = w.0.0.1; least = w.0.1; greatest = w.1 },
      λ c. i.1 (((c.leaves, c.enters), c.least), c.greatest),
    )

module _ (o : List ℕ) (f : ℕ → ℕ) (a : Arrow) where
  -- arrow j of the overview's bytes covers a
  abbrev test : ℕ → Bool
  test j = covers (mapped_arrow f a) (arrow_of (arrow_words o j))

  -- the search over the overview's arrows finds one that covers a just where there is one
  pub covered_iff :
      (covered o (mapped_arrow f a) ≡ true) ↔ ((b : Arrow) × Memᴰ b (chart_of o).arrows × Covers f a b)
  unfolding covered
  covered_iff = (
    λ e.
        let x = found_some (lowest test (arrow_count o)) e in
        let y = some_lowest test (arrow_count o) x.0 x.1 in
        let b = arrow_of (arrow_words o x.0) in
        (b, arrow_mem o x.0 y.inside, (covers_iff f a b).0 y.offends),
    λ w.
        let x = arrow_of_lem o w.0 w.1 in
        let b = arrow_of (arrow_words o x.0) in
        offender_found test x.1 ((covers_iff f a b).1 (subst (Covers f a) x.2 w.2)),
  )
