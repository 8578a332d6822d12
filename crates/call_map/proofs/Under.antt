-- The map's own rows, 20 to 23, against the meaning: none is met just where the detail is one under the overview.
use mathlib.Core.Path.{◌≡◌, sym, ap, ◌∙◌}
use mathlib.Core.Logic.{◌↔◌}
use mathlib.Core.Bool.{Bool, false, not}
use mathlib.Core.List.{List, Memᴰ}
use mathlib.Core.Option.{none}
use Prim.Native.Nat.{ℕ, ◌<◌}
use native.Mathlib.Omega.{arith}
use lib.ListN.{get_or}
use lib.Dec.{leb}
use borrow.Author.Tests.{leb-false, lt-leb, not-false}
use Rattle.base.proofs.Compare.{not_differ_iff}
use Rattle.tctl.specs.Chart.{Arrow, states}
use Rattle.tctl.specs.Detail.{Covers, Detail}
use Rattle.outcome.specs.declared.Outcome.{Outcome}
use Rattle.outcome.specs.Refusal.{first, success, lowest}
use Rattle.outcome.proofs.First.{unmet_at}
use Rattle.outcome.proofs.Lowest.{none_below, lowest_none}
use Rattle.chart.specs.Bytes.{state_count, arrow_count, label_word, arrow_words, arrow_of, chart_of}
use Rattle.chart.proofs.Chart.{states_of, label_of, arrow_mem, arrow_of_lem}
use Rattle.map.specs.Bytes.{entry, MapFormat}
use Rattle.cover.specs.Covered.{mapped_arrow, covered}
use Rattle.call_map.specs.Covered.{covered_at}
use Rattle.call_map.specs.Refusals.{labels_differ, map_table}
use Rattle.map.proofs.Format.{format_iff}
use Rattle.cover.proofs.Covering.{covered_iff}

module _ (d o p : List ℕ) where
  -- a row on the detail's states, whose test says no just where A is so
  states_iff :
      (q : ℕ → Bool) {A : ℕ → Type 0} → ((v : ℕ) → v < state_count d → (q v ≡ false) ↔ A v) →
      (lowest q (state_count d) ≡ none) ↔ ((v : ℕ) → v < states (chart_of d) → A v)
  states_iff q i = (
    λ e v l. let k : v < state_count d = omega (arith, states_of d) in (i v k).0 (none_below q (state_count d) e v k),
    λ h. lowest_none q (state_count d) (λ v l. (i v l).1 (h v (omega (arith, states_of d)))),
  )

  -- each entry names a state of the overview
  abbrev Inside : Type 0
  Inside = (v : ℕ) → v < states (chart_of d) → entry p v < states (chart_of o)

  -- row 21
  inside_iff : (lowest (λ v. leb (state_count o) (entry p v)) (state_count d) ≡ none) ↔ Inside
  inside_iff =
      states_iff (λ v. leb (state_count o) (entry p v)) λ v l. (
        λ e. omega (arith, leb-false (state_count o) (entry p v) e, states_of o),
        λ h. lt-leb (state_count o) (entry p v) (omega (arith, states_of o)),
      )

  -- row 22: where the entries name states, the label words of the bytes are those of the charts
  labels_iff :
      Inside →
      (lowest (labels_differ d o p) (state_count d) ≡ none) ↔
      ((v : ℕ) → v < states (chart_of d) → get_or (chart_of d).labels v 0 ≡ get_or (chart_of o).labels (entry p v) 0)
  labels_iff h =
      states_iff (labels_differ d o p) λ v l.
      let same = not_differ_iff (label_word d v) (label_word o (entry p v)) in
      let e = label_of d v l in
      let f = label_of o (entry p v) (omega (arith, h v (omega (arith, states_of d)), states_of o)) in
      (λ x. e ∙ same.0 x ∙ sym f, λ x. same.1 (sym e ∙ x ∙ f))

  -- no arrow of the overview covers arrow i of the detail; one covers the arrow a
  abbrev uncovered : ℕ → Bool
  uncovered i = not (covered_at d o p i)

  abbrev Covered : Arrow → Type 0
  Covered a = (b : Arrow) × Memᴰ b (chart_of o).arrows × Covers (entry p) a b

  -- row 23: the arrows of the bytes are those of the chart
  arrows_iff :
      (lowest uncovered (arrow_count d) ≡ none) ↔ ((a : Arrow) → Memᴰ a (chart_of d).arrows → Covered a)
  arrows_iff = (
    λ e a m.
        let x = arrow_of_lem d a m in
        let y = not-false _ (none_below uncovered (arrow_count d) e x.0 x.1) in
        let e = ap (λ b. covered o (mapped_arrow (entry p) b)) x.2 in
        (covered_iff o (entry p) a).0 (e ∙ y),
    λ h. lowest_none uncovered (arrow_count d) λ i l.
        let a = arrow_of (arrow_words d i) in
        ap not ((covered_iff o (entry p) a).1 (h a (arrow_mem d i l))),
  )

  -- Row by row, each against its part of the format or of the meaning, row 22 with what row 21 says.
  pub map_iff :
      (first (map_table d o p) ≡ success) ↔ (MapFormat p (state_count d) × Detail (chart_of d) (chart_of o) (entry p))
  unfolding map_table first
  map_iff = (
    λ e.
        let unmet = unmet_at (map_table d o p) tt (ap (λ (r : Outcome). r.number) e) in
        let inside = inside_iff.0 (unmet 1) in (
          (format_iff p (state_count d)).0 (unmet 0),
          record { inside = inside; labels = (labels_iff inside).0 (unmet 2); covered = arrows_iff.0 (unmet 3) },
        ),
    λ w.
        let det = w.1 in
        rw (
          (format_iff p (state_count d)).1 w.0,
          inside_iff.1 det.inside,
          (labels_iff det.inside).1 det.labels,
          arrows_iff.1 det.covered,
        ),
  )
