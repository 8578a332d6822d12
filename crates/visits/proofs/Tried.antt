-- An arrow that is tried: its start has what it offers, or gets it.
use mathlib.Core.Path.{◌≡◌, sym, ap, subst, ◌∙◌}
use mathlib.Core.Bool.{Bool, true, ◌&&◌}
use mathlib.Core.Bool.{not as neg}
use mathlib.Core.List.{List}
use Prim.Native.Nat.{ℕ, ◌≤◌, ◌<◌, min}
use native.Mathlib.Omega.{arith}
use lib.ListN.{length, set}
use lib.Seq.{get_or-set_same}
use lib.Dec.{ltb}
use Rattle.base.proofs.Truth.{cond_elim}
use Rattle.model.specs.Engine.{num}
use Rattle.chart.specs.declared.ArrowWords.{ArrowWords}
use Rattle.chart.specs.Bytes.{arrow_words, arrow_of}
use Rattle.hints.specs.Values.{radix, value_of, tested_of, values}
use Rattle.hints.proofs.Values.{value_at, values_set, values_length}
use Rattle.ways.specs.declared.Way.{Way}
use Rattle.ways.specs.Way.{top, Fits, ceiling_of, leaps_of, offer_of, reached_of, beside, Offers, Reached}
use Rattle.visits.specs.Moves.{Ready, arrow_at, Held, Moved, none, more, Went}
use Rattle.ways.proofs.Reaching.{beside_value, low_ceiling}
use Rattle.visits.proofs.Tested.{tested_open, tested_held}
use Rattle.visits.proofs.Went.{went_set}

module _
    {way : Way} (fits : Fits way) (chart ns : List ℕ) (i : ℕ) {w : ArrowWords} (is : w ≡ arrow_words chart i)
    (here : w.start < length ns) {y v : ℕ} (end : y ≡ value_of (num ns w.end)) (offers : Offers way w y v)
    {go : ℕ → Bool} (r : Ready way go ns) where
  abbrev vs : List ℕ
  vs = values ns

  -- the offer is below the radix, and up to the ceiling it is the model's
  low : v < radix
  low = omega (arith, offers.low, end, r.within w.end)

  comes : min (ceiling_of way) v ≡ offer_of way (arrow_of w) (num vs w.end)
  comes =
      offers.is fits (omega (arith, end, r.within w.end)) ∙
      ap (offer_of way (arrow_of w)) (end ∙ value_at ns w.end)

  -- a start that is not below the offer, now or later
  pub visit_stays :
      {us : List ℕ} → Ready way go us → length us ≡ length ns → v ≤ tested_of (num us w.start) →
      Held way go (arrow_at chart i) vs (values us)
  visit_stays {us} q e h =
      subst (λ w. Held way go (arrow_of w) vs (values us)) is
      (record { is = λ f. omega (arith, comes, tested_held q w.start (omega (arith, e)) v h low f) })

  -- what is set is what the offer reaches, with its side
  pub visit_moves :
      {m : ℕ} → tested_of (num ns w.start) < v → (x : ℕ) {t : ℕ} → Reached way v t → tested_of x ≡ t → i < m →
      Went way chart m go true ns (set ns w.start x) ×
      Held way go (arrow_at chart i) vs (values (set ns w.start x))
  visit_moves {m} h x reach tested l = (
    went_set r s x u here value side high up above.1 moved,
    subst (λ w. Held way go (arrow_of w) vs (values (set ns s x))) is
        (record { is = λ f. omega (arith, comes, ap (λ us. num us s) (values_set ns s x value), get_or-set_same vs s u 0 inside, above.0) }),
  )
    where
      s : ℕ
      s = w.start

      open_state : (go s ≡ true) × (num vs s < ceiling_of way) × (tested_of (num ns s) ≡ num vs s)
      open_state = tested_open r s here (omega (arith, low))

      u : ℕ
      u = reached_of way (min (ceiling_of way) v)

      above : (min (ceiling_of way) v ≤ u) × (u ≤ ceiling_of way)
      above =
          cond_elim (λ u. (min (ceiling_of way) v ≤ u) × (u ≤ ceiling_of way)) (leaps_of way)
          (λ e. (omega arith, omega arith)) (λ e. (omega arith, omega arith))

      high : u ≤ top
      high = omega (arith, above.1, low_ceiling way fits)

      side : tested_of x ≡ beside u (neg (go s && ltb u (ceiling_of way)))
      side =
          tested ∙ reach.is ∙ ap (λ b. beside u (neg (b && ltb u (ceiling_of way)))) (sym open_state.0)

      value : value_of x ≡ u
      value = beside_value (neg (go s && ltb u (ceiling_of way))) x side high

      up : num vs s < u
      up = omega (arith, open_state.1, open_state.2, above.0)

      inside : s < length vs
      inside = omega (arith, values_length ns)

      moved : Moved way chart m go vs (set vs s u)
      moved = subst (λ o. Moved way chart m go vs (set vs s (reached_of way o))) (sym comes) given
        where
          given : Moved way chart m go vs (set vs s (reached_of way (offer_of way (arrow_of w) (num vs w.end))))
          given =
              subst (λ w. go w.start ≡ true → num vs w.start < offer_of way (arrow_of w) (num vs w.end) →
              Moved way chart m go vs (set vs w.start (reached_of way (offer_of way (arrow_of w) (num vs w.end))))) (sym is)
              (more none i l) open_state.0 (omega (arith, comes, open_state.1, open_state.2))
