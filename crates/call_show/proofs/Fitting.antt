-- The run that fits: there is one just where row 62 is not met, it is a shortest true one, and its bytes can tell it.
use mathlib.Core.Path.{◌≡◌, refl, sym, ap, subst, ◌∙◌}
use mathlib.Core.Logic.{◌↔◌, by_cases}
use mathlib.Core.Bool.{true, false, cond, false≢true}
use mathlib.Core.List.{List, []}
use mathlib.Core.Option.{Option, none, some}
use Prim.Native.Nat.{ℕ, suc, ◌*◌, ◌≤◌, ◌<◌}
use native.Mathlib.Omega.{arith}
use native.Mathlib.Decide.{dec_le}
use lib.ListN.{length}
use lib.Dec.{ltb}
use borrow.Author.Tests.{ltb-true, lt-ltb}
use Rattle.base.proofs.Truth.{cond_elim, decides}
use Rattle.tctl.specs.Chart.{Chart, Arrow, states}
use Rattle.tctl.specs.Formula.{Formula}
use Rattle.tctl.specs.Accepted.{Accepted}
use Rattle.tctl.proofs.Drawn.{accepted_drawn}
use Rattle.append.specs.Piece.{AtFront}
use Rattle.shown.specs.Shown.{Position, state_at, duration_at, Reason, Shortest}
use Rattle.shown.specs.Search.{Search, walk_by}
use Rattle.shown.specs.Showable.{search_of, steps_of}
use Rattle.shown.proofs.Walks.{walk_by_length, walk_below}
use Rattle.shown.proofs.Meaning.{found_shortest, none_iff}
use Rattle.run_walk.specs.RunBytes.{run_bytes}
use Rattle.run_walk.proofs.RunBytes.{run_bytes_length}
use Rattle.show_run.specs.Run.{fitting, run_in}
use Rattle.show_refusals.specs.Fits.{unfit}
use Rattle.call_show.specs.Show.{Writable}

pub told_none : Writable []
told_none = record { states = λ i. omega arith; durations = λ i. omega arith }

module _ (arrows : List Arrow) (z : Search) (s room : ℕ) where
  pub unfit_none : (steps : Option ℕ) → unfit room steps ≡ true → fitting arrows z s room steps ≡ []
  unfit_none none e = refl
  unfit_none (some k) e = ap {B = List Position} (λ b. cond b [] (walk_by arrows z k s)) e

module _ {G : Chart} (acc : Accepted G) (f : Formula) {s : ℕ} (low : s < states G) (room : ℕ) where
  abbrev arrows : List Arrow
  arrows = G.arrows

  abbrev z : Search
  z = search_of G f

  abbrev steps : Option ℕ
  steps = steps_of G f s

  abbrev run : List Position
  run = run_in arrows z s room

  pub fit_shortest : unfit room steps ≡ false → Shortest (Reason G f s) run
  fit_shortest = turn steps refl
    where
      turn :
          (o : Option ℕ) → steps ≡ o → unfit room o ≡ false → Shortest (Reason G f s) (fitting arrows z s room o)
      turn none e h = absurd (false≢true (sym h))
      turn (some k) e h =
          subst (λ b. Shortest (Reason G f s) (cond b [] (walk_by arrows z k s))) (sym h) (found_shortest acc f low e)

  fit_some : unfit room steps ≡ false → 1 ≤ length run
  fit_some = turn steps
    where
      turn : (o : Option ℕ) → unfit room o ≡ false → 1 ≤ length (fitting arrows z s room o)
      turn none h = absurd (false≢true (sym h))
      turn (some k) h =
          subst (λ b. 1 ≤ length (cond b [] (walk_by arrows z k s))) (sym h) (omega (arith, walk_by_length arrows z k s))

  -- bytes are written just where a run fits: 6 for each of its positions
  pub written_iff : {r : ℕ} {old new : List ℕ} → AtFront (run_bytes run) r old new → (unfit room steps ≡ true) ↔ (r ≡ 0)
  written_iff {r} h =
      let size : r ≡ 6 * length run = h.end ∙ run_bytes_length run in
      decides (unfit room steps)
      (λ e. size ∙ ap (λ x. 6 * length x) (unfit_none arrows z s room steps e))
      (λ e n. absurd (let z : ⊥ = omega (arith, fit_some e) in z))

  -- row 62's meaning: the run of the fewest steps is the shortest, so if it does not fit none does
  pub unfit_iff :
      (unfit room steps ≡ true) ↔
      ((shown : List Position) → Reason G f s shown → length shown ≤ 257 → ¬ (6 * length shown ≤ room))
  unfit_iff = turn steps refl
    where
      Fits : Type 0
      Fits = (shown : List Position) → Reason G f s shown → length shown ≤ 257 → ¬ (6 * length shown ≤ room)

      turn : (o : Option ℕ) → steps ≡ o → (unfit room o ≡ true) ↔ Fits
      turn none e = (λ _ shown w l. absurd ((none_iff acc f low).0 e shown w l), λ _. refl)
      turn (some k) e =
          let short = found_shortest acc f low e in
          let size = walk_by_length arrows z k s in (
            λ h shown w l. λ i.
                let z : ⊥ = omega (arith, ltb-true room (6 * suc k) h, short.fewest shown w, size) in z,
            λ none.
                by_cases (dec_le (6 * suc k) room)
                (λ l. absurd (none (walk_by arrows z k s) short.reason short.short (omega (arith, size))))
                (λ l. lt-ltb room (6 * suc k) (omega arith)),
          )

  -- states are of the chart
  run_states : (i : ℕ) → state_at run i < states G
  run_states i = turn steps
    where
      none_shown : state_at [] i < states G
      none_shown = omega (arith, low)

      turn : (o : Option ℕ) → state_at (fitting arrows z s room o) i < states G
      turn none = none_shown
      turn (some k) =
          cond_elim (λ shown. state_at shown i < states G) (ltb room (6 * suc k)) (λ e. none_shown)
          (λ e. walk_below (accepted_drawn acc) z k low i)

  pub run_told :
      states G ≤ 256 → ((i : ℕ) → duration_at (run_in G.arrows (search_of G f) s room) i ≤ 65537) →
      Writable (run_in G.arrows (search_of G f) s room)
  run_told few brief =
      record { states = λ i. omega (arith, run_states i); durations = λ i. omega (arith, brief i) }
