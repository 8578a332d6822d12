-- A chart whose bytes have the format and whose meaning is accepted passes checks 1 to 9.
use mathlib.Core.Path.{◌≡◌, sym, ap, ◌∙◌}
use mathlib.Core.Bool.{true, false, not}
use mathlib.Core.List.{List}
use Prim.Native.Nat.{ℕ, ◌<◌}
use native.Mathlib.Omega.{arith}
use lib.Dec.{eqb}
use borrow.Author.Tests.{lt-leb, eq-eqb}
use Rattle.tctl.specs.Chart.{Arrow}
use Rattle.tctl.specs.Accepted.{Accepted}
use Rattle.outcome.proofs.Whole.{equal_none, inside_none}
use Rattle.outcome.specs.Met.{Unmet, end}
use Rattle.outcome.proofs.Unmet.{unmet_more, unmet_append_iff}
use Rattle.outcome.proofs.Lowest.{lowest_none, offender_found}
use Rattle.head.specs.Head.{head_rows, Headed}
use Rattle.head.proofs.Passed.{head_iff}
use Rattle.chart.specs.Bytes.{state_count, arrow_count, arrow_words, chart_of}
use Rattle.chart.specs.Shape.{Shape}
use Rattle.chart.specs.Refusals.{chart_table, names_no_state, empty_slot, left_by}
use Rattle.chart.specs.declared.ArrowWords.{ArrowWords}
use Rattle.chart.proofs.WellFormed.{WellFormed}
use Rattle.chart.proofs.Chart.{states_of, arrow_mem, arrow_of_lem}

-- ── The conditions of an arrow ──

names_states : (n : ℕ) (w : ArrowWords) → (w.start < n) × (w.end < n) → names_no_state n w ≡ false
names_states n w h = rw (lt-leb n w.start h.0, lt-leb n w.end h.1)

-- ── The table ──

-- row by row, each condition is false
pub formed_unmet : (s : List ℕ) → WellFormed s → Unmet (chart_table s)
unfolding chart_table
formed_unmet s ok =
    let n = state_count s in
    let m = arrow_count s in
    let w = arrow_words s in
    let h = ok.shape in
    let four = inside_none 1 256 n h.some_states h.few_states in
    let five = inside_none 1 2048 m h.some_arrows h.few_arrows in
    let six = equal_none h.whole in
    let seven = lowest_none (λ i. names_no_state n (w i)) m (λ i l. names_states n (w i) (ok.ends i l)) in
    let eight = lowest_none (λ i. empty_slot (w i)) m ok.slots in
    let nine = lowest_none (λ v. not (left_by s m v)) n (λ v l. ap not (ok.left v l)) in
    let body = unmet_more seven (unmet_more eight (unmet_more nine end)) in
    let rest = unmet_more four (unmet_more five (unmet_more six body)) in
    (unmet_append_iff (head_rows 1 9 s) _).1 ((head_iff 1 9 s).1 ok.head, rest)

module _ (s : List ℕ) (acc : Accepted (chart_of s)) where
  -- the arrow of the chart that leaves v is one of the bytes', so one is found
  left : (v : ℕ) → v < state_count s → left_by s (arrow_count s) v ≡ true
  unfolding left_by
  left v l =
      let x = acc.leaves v (omega (arith, states_of s)) in
      let y = arrow_of_lem s x.0 x.1 in
      let e = sym (ap (λ (a : Arrow). a.start) y.2) ∙ x.2 in
      offender_found (λ i. eqb (arrow_words s i).start v) y.1 (eq-eqb _ v e)

  -- rows 7 and 9 from the meaning, the others from the format
  pub accepted_formed :
      Headed 9 s → Shape s (state_count s) (arrow_count s) →
      ((i : ℕ) → i < arrow_count s → empty_slot (arrow_words s i) ≡ false) → WellFormed s
  accepted_formed head shape slots =
      record {
        head = head;
        shape = shape;
        ends = λ i l.
            let m = arrow_mem s i l in
            (omega (arith, acc.starts _ m, states_of s), omega (arith, acc.ends _ m, states_of s));
        slots = slots;
        left = left;
      }
