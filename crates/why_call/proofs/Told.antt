-- What is printed of what show answers.
use mathlib.Core.Path.{◌≡◌, sym, ap, ap₂, ◌∙◌}
use mathlib.Core.Bool.{Bool}
use mathlib.Core.List.{List}
use Prim.Native.Nat.{ℕ, ◌*◌, ◌≤◌}
use native.Mathlib.Omega.{arith}
use lib.ListN.{length, take}
use lib.Seq.{take-append_seam}
use Rattle.outcome.specs.declared.Outcome.{Outcome}
use Rattle.outcome.specs.declared.Written.{Written}
use Rattle.append.specs.Piece.{AtFront}
use Rattle.tctl.specs.Chart.{Chart}
use Rattle.tctl.specs.Formula.{Formula, always, label, not, and, or, some_until, all_until, at_most, at_least, exactly}
use Rattle.chart.specs.Bytes.{chart_of}
use Rattle.rule.specs.Bytes.{node_words}
use Rattle.rule.specs.Formula.{formula_at}
use Rattle.shown.specs.Shown.{Position, Reason}
use Rattle.run_walk.specs.RunBytes.{run_bytes}
use Rattle.run_walk.proofs.RunBytes.{run_bytes_length}
use Rattle.call_show.specs.Show.{Showed}
use Rattle.listing.specs.Text.{refused_line}
use Rattle.run_listing.specs.RunText.{run_text, positions_of}
use Rattle.desk_call.specs.Printed.{lent_marks}
use Rattle.why_call.specs.Why.{lent_table, lent_run, is_all, Reports}
use Rattle.why_call.proofs.RoundTrip.{positions_back}

-- a reason has a position at least
reason_some : (G : Chart) (f : Formula) (s : ℕ) (shown : List Position) → Reason G f s shown → 1 ≤ length shown
reason_some G always s shown h = absurd h
reason_some G (label i) s shown h = absurd h
reason_some G (not f) s shown h = absurd h
reason_some G (and f g) s shown h = absurd h
reason_some G (or f g) s shown h = absurd h
reason_some G (some_until b f g) s shown h = omega (arith, h.shows.count)
reason_some G (all_until (at_most c) f g) s shown h = omega (arith, h.shows.count)
reason_some G (all_until (at_least c) f g) s shown h = absurd h
reason_some G (all_until (exactly c) f g) s shown h = absurd h

module _ {chart rule : List ℕ} {node state : ℕ} {answer : Written} {marks scratch run : List ℕ}
    (s : Showed chart rule lent_marks lent_table node state lent_run answer marks scratch run) where
  pub refused_told :
      {r : ℕ} {old new : List ℕ} → ¬ (answer.outcome.number ≡ 0) →
      AtFront (refused_line answer.outcome) r old new →
      Reports chart rule node state (record { outcome = answer.outcome; printed = r }) old new
  refused_told h p =
      let number = ap (λ (o : Outcome). o.number) s.answer in
      record {
        answer = s.answer;
        text = _;
        front = p;
        refused = λ k. ap refused_line s.answer;
        shown = λ z. absurd (h (number ∙ z));
      }

  module _ (z : answer.outcome.number ≡ 0) where
    -- the bytes written are those of a run of 1 to 257 positions
    pub written_size : (6 ≤ answer.written) × (answer.written ≤ 257 * 6)
    written_size =
        let size = run_bytes_length s.shown in (
          omega (arith, s.front.end, size, reason_some (chart_of chart) (formula_at rule node) state s.shown (s.reason z).reason),
          omega (arith, s.front.end, size, (s.reason z).short),
        )

    taken : take answer.written run ≡ run_bytes s.shown
    taken = ap₂ take s.front.end s.front.bytes ∙ take-append_seam (run_bytes s.shown) _

    pub shown_told :
        {r : ℕ} {old new : List ℕ} {all : Bool} {c : ℕ} → all ≡ is_all chart rule node state →
        c ≡ (node_words rule node).c → AtFront (run_text all c (positions_of (take answer.written run))) r old new →
        Reports chart rule node state (record { outcome = answer.outcome; printed = r }) old new
    shown_told {r} {old} {new} e f p =
        let number = ap (λ (o : Outcome). o.number) s.answer in
        let told = ap positions_of taken ∙ positions_back s.shown in
        record {
          answer = s.answer;
          text = _;
          front = p;
          refused = λ k. absurd (k (sym number ∙ z));
          shown = λ k. (s.shown, cc, s.reason z);
        }
