-- The reasons by the engine's answers for the operands, and the search of a formula that finds them.
use mathlib.Core.Logic.Iff
use mathlib.Core.Logic.{◌↔◌, ⊎_map}
use mathlib.Core.List.{List}
use mathlib.Core.Bool.{false, false≢true}
use Prim.Native.Nat.{ℕ, ◌<◌}
use Rattle.base.specs.Yes.{Yes}
use Rattle.base.proofs.Truth.{yes_dec}
use Rattle.tctl.specs.Chart.{Chart, states}
use Rattle.tctl.specs.Formula.{Bound, at_most, at_least, exactly, Formula, always, label, not, and, or, some_until, all_until}
use Rattle.tctl.specs.Holds.{Holds}
use Rattle.tctl.specs.Accepted.{Accepted}
use Rattle.tctl.proofs.Drawn.{Drawn, accepted_drawn}
use Rattle.model.specs.Decide.{holds}
use Rattle.model.proofs.Decide.{holds_iff}
use Rattle.shown.specs.Shown.{Position, SomeReason, AllReason, Reason}
use Rattle.shown.specs.Search.{enough_by, walk_by, vain}
use Rattle.shown.specs.Showable.{enough_of, walk_of}
use Rattle.shown.proofs.Along.{along_same}
use Rattle.shown.proofs.Reasons.{SomeAlong, some_along, AllAlong, all_along}
use Rattle.shown.proofs.Shortest.{Finds, finds_same}
use Rattle.shown.proofs.Found.{some_finds, all_finds}

-- ── Operands by their answers ──

module _ {G : Chart} (acc : Accepted G) (f g : Formula) {s : ℕ} (low : s < states G) where
  f_iff : (x : ℕ) → x < states G → Holds G f x ↔ Yes (holds G f) x
  f_iff x l = Iff.symm (holds_iff G acc f x l)

  g_iff : (x : ℕ) → x < states G → Holds G g x ↔ Yes (holds G g) x
  g_iff x l = Iff.symm (holds_iff G acc g x l)

  pub some_answers :
      (b : Bound) (shown : List Position) →
      SomeReason G (Holds G f) (Holds G g) b s shown ↔ SomeAlong G (Yes (holds G f)) (Yes (holds G g)) b s shown
  some_answers b shown =
      Iff.trans some_along
      (along_same (accepted_drawn acc) (λ k x l. f_iff x l) (λ k x l. Iff.and Iff.rfl (g_iff x l)) low)

  pub all_answers :
      (c : ℕ) (shown : List Position) →
      AllReason G (Holds G f) (Holds G g) c s shown ↔ AllAlong G (Yes (holds G f)) (Yes (holds G g)) c 0 s shown
  all_answers c shown =
      Iff.trans (all_along dr (λ x l. (Iff.dec (f_iff x l)).1 (yes_dec (holds G f) x)) low)
      (along_same dr (λ k x l. Iff.and Iff.rfl (Iff.and (f_iff x l) (Iff.not (g_iff x l))))
      (λ k x l.
      let neither = Iff.and (Iff.not (f_iff x l)) (Iff.not (g_iff x l)) in
      (⊎_map (λ h. h) neither.0, ⊎_map (λ h. h) neither.1)) low)
    where
      dr : Drawn G
      dr = accepted_drawn acc

-- ── The search of a formula ──

module _ {G : Chart} (acc : Accepted G) {s : ℕ} (low : s < states G) where
  -- where nothing can be shown: a reason would end where a test that says no says yes
  vain_finds : Finds (enough_by G.arrows vain s) (λ k. walk_by G.arrows vain k s) (λ shown. ⊥)
  vain_finds =
      finds_same (λ shown. (λ r. false≢true ((some_along {b = at_most 0}).1 r).there, λ r. absurd r))
      (some_finds (accepted_drawn acc) (λ x. false) (λ x. false) low (at_most 0))

  pub reason_finds : (f : Formula) → Finds (enough_of G f s) (λ k. walk_of G f k s) (Reason G f s)
  reason_finds always = vain_finds
  reason_finds (label i) = vain_finds
  reason_finds (not f) = vain_finds
  reason_finds (and f g) = vain_finds
  reason_finds (or f g) = vain_finds
  reason_finds (some_until b f g) =
      finds_same (λ shown. Iff.symm (some_answers acc f g low b shown))
      (some_finds (accepted_drawn acc) (holds G f) (holds G g) low b)
  reason_finds (all_until (at_most c) f g) =
      finds_same (λ shown. Iff.symm (all_answers acc f g low c shown))
      (all_finds (accepted_drawn acc) c (holds G f) (holds G g) low)
  reason_finds (all_until (at_least c) f g) = vain_finds
  reason_finds (all_until (exactly c) f g) = vain_finds
