-- E-untils by minutes: for every bound the table finds just the states from which a path meets it, on every drawn chart.
use mathlib.Core.Path.{◌≡◌, sym, ◌∙◌}
use mathlib.Core.Logic.Iff
use mathlib.Core.Logic.{◌↔◌}
use mathlib.Core.Bool.{Bool, true, false, false≢true}
use Prim.Native.Nat.{ℕ, ◌+◌, ◌≤◌, ◌<◌}
use native.Mathlib.Omega.{arith}
use Rattle.base.specs.Yes.{Yes}
use Rattle.tctl.specs.Chart.{Chart, states}
use Rattle.tctl.specs.Formula.{Bound, Meets}
use Rattle.tctl.specs.Path.{Path, minutes}
use Rattle.tctl.proofs.Drawn.{Drawn}
use Rattle.minutes.specs.Untils.{row_of, task_of, beyond_of, counted}
use Rattle.minutes.proofs.Rounds.{makes_iff}
use Rattle.minutes.proofs.Bounds.{Beyond, never, always, beyond}
use Rattle.minutes.proofs.SomeMakes.{MetFrom, some_makes}
use Rattle.minutes.proofs.PlainSome.{plain_some_iff}

module _ {G : Chart} (dr : Drawn G) (p q : ℕ → Bool) (b : Bound) where
  -- who meets the until when the bound has passed
  abbrev meets_beyond : ℕ → Bool
  meets_beyond = beyond_of G.arrows (states G) false b p q

  beyond_iff :
      Beyond G.arrows (states G) false p q b →
      (k s : ℕ) → row_of b ≤ k → s < states G → (meets_beyond s ≡ true) ↔ MetFrom G p q b k s
  beyond_iff (never f same) k s h l = (
    λ e. absurd (false≢true (sym (same s) ∙ e)),
    λ w. absurd (f (k + minutes w.0) (omega arith) w.1),
  )
  beyond_iff (always f same) k s h l =
      let i = plain_some_iff dr p q s l in (
        λ e. let w = i.0 (sym (same s) ∙ e) in (w, f (k + minutes w) (omega arith)),
        λ w. same s ∙ i.1 w.0,
      )

  pub some_counted_iff :
      (s : ℕ) → s < states G →
      (counted false b G.arrows (states G) p q s ≡ true) ↔ ((w : Path G (Yes p) (Yes q) s) × Meets b (minutes w))
  some_counted_iff s l =
      let passed = beyond_iff (beyond G.arrows (states G) false p q b) in
      Iff.trans (makes_iff dr (task_of false b p q meets_beyond) (row_of b) s l)
      (some_makes dr p q b meets_beyond passed s l)
