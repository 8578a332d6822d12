-- What can be shown, by the meaning: a reason is there just where the mark, or the missing one, can be shown, and the
-- search finds a shortest one of at most 256 steps, if there is one.
use mathlib.Core.Path.{◌≡◌}
use mathlib.Core.Logic.Iff
use mathlib.Core.Logic.{◌↔◌, by_cases}
use mathlib.Core.List.{List}
use mathlib.Core.Option.{none, some}
use mathlib.Core.Bool.{true, false, false≢true}
use Prim.Native.Nat.{ℕ, suc, ◌≤◌, ◌<◌}
use native.Mathlib.Omega.{arith}
use native.Mathlib.Decide.{dec_le}
use lib.ListN.{length}
use Rattle.base.specs.Yes.{Yes}
use Rattle.base.proofs.Truth.{yes_dec, not_iff}
use Rattle.tctl.specs.Chart.{Chart, states}
use Rattle.tctl.specs.Formula.{Bound, at_most, at_least, exactly, Formula, always, label, not, and, or, some_until, all_until}
use Rattle.tctl.specs.Accepted.{Accepted}
use Rattle.tctl.proofs.Drawn.{accepted_drawn}
use Rattle.tctl.proofs.Lively.{lively}
use Rattle.tctl.proofs.SomeUntil.{some_iff_path}
use Rattle.tctl.proofs.AllAtMost.{Late, met_unless_late}
use Rattle.tctl.proofs.Until.{met_iff_until, met_map}
use Rattle.model.specs.Engine.{num}
use Rattle.model.specs.Decide.{waits, holds}
use Rattle.model.proofs.Decide.{holds_iff}
use Rattle.model.proofs.Waiting.{waits_iff}
use Rattle.shown.specs.Shown.{Position, Reason, Showable, Shortest}
use Rattle.shown.specs.Search.{fewest_steps}
use Rattle.shown.specs.Showable.{showable, enough_of, walk_of, steps_of}
use Rattle.shown.proofs.Begins.{begun, some_met, all_unmet}
use Rattle.shown.proofs.Reasons.{some_along}
use Rattle.shown.proofs.Paths.{some_shown, late_shown}
use Rattle.shown.proofs.Shortest.{Steps, first_enough_iff, lowest_shortest, no_lowest_iff}
use Rattle.shown.proofs.Found.{some_walk}
use Rattle.shown.proofs.Operands.{some_answers, all_answers, reason_finds}

module _ {G : Chart} (acc : Accepted G) where
  -- ── A reason is there just where the mark can be shown ──

  -- a run begins with the reason: it meets the until, or it does not
  pub reason_showable :
      (f : Formula) {s : ℕ} → s < states G → (shown : List Position) → Reason G f s shown → Showable G f s
  reason_showable always low shown w = w
  reason_showable (label i) low shown w = w
  reason_showable (not f) low shown w = w
  reason_showable (and f g) low shown w = w
  reason_showable (or f g) low shown w = w
  reason_showable (some_until b f g) low shown w =
      let r = begun acc low w.shows in
      (r.0, some_met w r.0 r.1)
  reason_showable (all_until (at_most c) f g) low shown w =
      let r = begun acc low w.shows in
      λ met. all_unmet w r.0 r.1 (met r.0)
  reason_showable (all_until (at_least c) f g) low shown w = w
  reason_showable (all_until (exactly c) f g) low shown w = w

  -- The run that meets an E-until is shown up to where it does. For an A-until the engine decides whether a path is
  -- late: if one is, it is shown up to where it is over; if none is, every run meets the until.
  pub showable_reason :
      (f : Formula) {s : ℕ} → s < states G → Showable G f s → (shown : List Position) × Reason G f s shown
  showable_reason always low w = absurd w
  showable_reason (label i) low w = absurd w
  showable_reason (not f) low w = absurd w
  showable_reason (and f g) low w = absurd w
  showable_reason (or f g) low w = absurd w
  showable_reason (some_until b f g) {s} low w =
      let p = (some_iff_path (accepted_drawn acc) (lively acc) s low).0 w in
      let v = some_shown b p.0 p.1 in
      (v.0, some_along.1 v.1)
  showable_reason (all_until (at_most c) f g) {s} low w =
      let dr = accepted_drawn acc in
      let late : Dec (Late G (Yes (holds G f)) (Yes (holds G g)) (suc c) 0 s) =
      (Iff.dec (waits_iff (holds G f) (holds G g) dr (suc c) s low)).0
      (dec_le (suc (suc c)) (num (waits G.arrows (states G) (suc c) (holds G f) (holds G g)) s)) in
      by_cases late
      (λ l. let v = late_shown l in (v.0, (all_answers acc f g low c v.0).1 v.1))
      (λ none.
      absurd (w (λ r.
      met_map dr (λ x l. (holds_iff G acc f x l).0) (λ x l. (holds_iff G acc g x l).0) low r
      ((met_iff_until r).1
      (met_unless_late (yes_dec (holds G f)) (yes_dec (holds G g)) (omega arith) none r)))))
  showable_reason (all_until (at_least c) f g) low w = absurd w
  showable_reason (all_until (exactly c) f g) low w = absurd w

  pub reason_iff :
      (f : Formula) {s : ℕ} → s < states G → ((shown : List Position) × Reason G f s shown) ↔ Showable G f s
  reason_iff f low = (λ w. reason_showable f low w.0 w.1, showable_reason f low)

  -- the engine's answers decide which marks can be shown
  pub showable_iff : (f : Formula) {s : ℕ} → s < states G → (showable G f s ≡ true) ↔ Showable G f s
  showable_iff always low = (false≢true, absurd)
  showable_iff (label i) low = (false≢true, absurd)
  showable_iff (not f) low = (false≢true, absurd)
  showable_iff (and f g) low = (false≢true, absurd)
  showable_iff (or f g) low = (false≢true, absurd)
  showable_iff (some_until b f g) {s} low = holds_iff G acc (some_until b f g) s low
  showable_iff (all_until (at_most c) f g) {s} low =
      let until = all_until (at_most c) f g in
      Iff.trans (not_iff (holds G until s)) (Iff.not (holds_iff G acc until s low))
  showable_iff (all_until (at_least c) f g) low = (false≢true, absurd)
  showable_iff (all_until (exactly c) f g) low = (false≢true, absurd)

  -- ── The search ──

  -- for an E-until k steps from s are enough just where a reason of exactly k steps starts at s
  pub some_iff :
      (b : Bound) (f g : Formula) {s : ℕ} → s < states G → (k : ℕ) →
      (enough_of G (some_until b f g) s k ≡ true) ↔
      ((shown : List Position) × Reason G (some_until b f g) s shown × Steps k shown)
  some_iff b f g {s} low k =
      let found = reason_finds acc low (some_until b f g) in
      let there = walk_of G (some_until b f g) k s in (
        λ e. (
          there,
          (some_answers acc f g low b there).1 (some_walk (accepted_drawn acc) (holds G f) (holds G g) low b k e),
          found.size k,
        ),
        λ w. found.counts k w.0 w.1 w.2,
      )

  -- For every formula so is the lowest number that is enough. A later one of an A-until may be enough by a run that was
  -- over before its end.
  pub lowest_entry_iff :
      (f : Formula) {s : ℕ} → s < states G → (k : ℕ) → ((j : ℕ) → j < k → enough_of G f s j ≡ false) →
      (enough_of G f s k ≡ true) ↔ ((shown : List Position) × Reason G f s shown × Steps k shown)
  lowest_entry_iff f low = first_enough_iff (reason_finds acc low f)

  pub found_shortest :
      (f : Formula) {s k : ℕ} → s < states G → steps_of G f s ≡ some k → Shortest (Reason G f s) (walk_of G f k s)
  unfolding fewest_steps
  found_shortest f {s} {k} low = lowest_shortest (reason_finds acc low f) k

  pub none_iff :
      (f : Formula) {s : ℕ} → s < states G →
      (steps_of G f s ≡ none) ↔ ((shown : List Position) → Reason G f s shown → ¬ (length shown ≤ 257))
  unfolding fewest_steps
  none_iff f low = no_lowest_iff (reason_finds acc low f)
