-- Runs along which an until is not met.
use mathlib.Core.Path.{subst}
use mathlib.Core.Logic.{⊎_elim}
use Prim.Native.Nat.{ℕ, ◌+◌}
use Rattle.tctl.specs.Chart.{Chart}
use Rattle.tctl.specs.Run.{Run, Step}
use Rattle.tctl.specs.Formula.{Bound, Meets}
use Rattle.tctl.proofs.Run.{ahead}
use Rattle.tctl.proofs.Until.{Until, now_or_later, until_weaken}

-- a run from s along which the until is not met if s has the moment k
pub record Unmet (G : Chart) (P Q : ℕ → Type 0) (b : Bound) (k s : ℕ) : Type 0 where
  pub run : Run G s
  pub never : ¬ Until P Q b k run.state run.duration

pub unmet_weaken :
    {G : Chart} {P Q : ℕ → Type 0} {b b' : Bound} {k k' s : ℕ} →
    ((m : ℕ) → Meets b' (k' + m) → Meets b (k + m)) →
    Unmet G P Q b k s →
    Unmet G P Q b' k' s
unmet_weaken f u =
    record { run = u.run; never = λ w. u.never (until_weaken f w) }

module _ {G : Chart} {P Q : ℕ → Type 0} {b : Bound} {k s : ℕ} (not-now : Meets b k → ¬ Q s) where
  -- P is missing at s, so that it is met neither now nor later
  pub unmet_here : ¬ P s → Run G s → Unmet G P Q b k s
  unmet_here f r =
      let e = r.starts in
      record {
        run = r;
        never = λ u.
            ⊎_elim (λ h. not-now h.0 (subst Q e h.1)) (λ h. f (subst P e h.0)) (now_or_later u);
      }

  -- it is not met now, nor, after a step, later
  pub unmet_ahead : {d t : ℕ} → Step G s d t → Unmet G P Q b (k + d) t → Unmet G P Q b k s
  unmet_ahead {d} x u =
      record {
        run = ahead x u.run;
        never = λ w. ⊎_elim (λ h. not-now h.0 h.1) (λ h. u.never h.1) (now_or_later w);
      }
