-- A-untils by minutes: the table settles a bound, if what it says beyond the bound is right.
use mathlib.Core.Path.{◌≡◌, sym, ◌∙◌}
use mathlib.Core.Bool.{Bool, true, false, false≢true}
use Prim.Native.Nat.{ℕ, ◌+◌, ◌≤◌, ◌<◌}
use native.Mathlib.Omega.{arith}
use borrow.Author.Tests.{not-true, not-false}
use Rattle.base.specs.Sum.{sum}
use Rattle.base.specs.Tabulate.{tabulate}
use Rattle.base.specs.Yes.{Yes}
use Rattle.tctl.specs.Chart.{Chart, states}
use Rattle.tctl.specs.Formula.{Bound, Meets}
use Rattle.tctl.proofs.Drawn.{Drawn}
use Rattle.tctl.proofs.Run.{Lively}
use Rattle.tctl.proofs.Unmet.{Unmet}
use Rattle.minutes.specs.Untils.{row_of, task_of, beyond_of, finds, counted}
use Rattle.minutes.proofs.Rounds.{makes_iff}
use Rattle.minutes.proofs.AllMakes.{MetBy, all_unmet, all_met}
use Rattle.model.proofs.Row.{asked}
use Rattle.model.proofs.Settles.{Settles}

-- who fails the until when the bound has passed
abbrev pub fails_beyond : Chart → (ℕ → Bool) → (ℕ → Bool) → Bound → ℕ → Bool
fails_beyond G p q b = beyond_of G.arrows (states G) true b p q

-- beyond the bound, where the table says yes a run does not meet the until, and where it says no every run does
pub record BeyondSettled (G : Chart) (p q : ℕ → Bool) (b : Bound) : Type 0 where
  pub unmet : (k s : ℕ) → row_of b ≤ k → s < states G → fails_beyond G p q b s ≡ true → Unmet G (Yes p) (Yes q) b k s
  pub met : (k s : ℕ) → row_of b ≤ k → s < states G → fails_beyond G p q b s ≡ false → MetBy G p q b k s

module _ {G : Chart} (dr : Drawn G) (live : Lively G) (p q : ℕ → Bool) (b : Bound) where
  -- a bound that is never met again: no run meets it, and every state has a run
  pub never_settled :
      ((k : ℕ) → row_of b ≤ k → ¬ Meets b k) → ((s : ℕ) → fails_beyond G p q b s ≡ true) → BeyondSettled G p q b
  never_settled f same =
      record {
        unmet = λ k s h l e.
            let r = live s l in
            record {
              run = r;
              never = λ u. f (k + sum r.duration u.position) (omega arith) u.intime;
            };
        met = λ k s h l e. absurd (false≢true (sym e ∙ same s));
      }

  pub counted_settles :
      BeyondSettled G p q b → Settles G p q b (tabulate (states G) (counted true b G.arrows (states G) p q))
  counted_settles right =
      let n = states G in
      let fails : ℕ → Bool = finds G.arrows n true b p q in
      let row : ℕ → Bool = counted true b G.arrows n p q in
      let i = makes_iff dr (task_of true b p q (fails_beyond G p q b)) (row_of b) in
      record {
        met = λ s l e.
            all_met dr live p q b (fails_beyond G p q b) right.unmet right.met s l
            (λ v. false≢true (sym (not-true (fails s) (asked n row s l e)) ∙ (i s l).1 v));
        unmet = λ s l e.
            all_unmet dr live p q b (fails_beyond G p q b) right.unmet right.met s l
            ((i s l).0 (not-false (fails s) (asked n row s l e)));
      }
