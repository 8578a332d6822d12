-- What makes a shown run "a true reason" (02, paper 1): its claims, over the meaning alone.
use Rattle.std.specs.Prelude.{◌↔◌, List, ℕ, ◌<◌}
use Rattle.tctl.specs.Chart.{Chart, states}
use Rattle.tctl.specs.Run.{Run}
use Rattle.tctl.specs.Formula.{Bound, at_most, Formula}
use Rattle.tctl.specs.Holds.{Met}
use Rattle.tctl.specs.Accepted.{Accepted}
use Rattle.shown.specs.Shown.{Position, Shows, SomeReason, AllReason, Reason, Showable, Begins}

pub record TrueReasons : Type 1 where
  -- there is a run that begins with what is shown
  pub begun :
      (G : Chart) → Accepted G → (s last : ℕ) (shown : List Position) → s < states G → Shows G s shown last →
      (r : Run G s) × Begins shown r
  -- each run that begins with the reason for an E-until meets it
  pub some_met :
      (G : Chart) (P Q : ℕ → Type 0) (b : Bound) (s : ℕ) (shown : List Position) → SomeReason G P Q b s shown →
      (r : Run G s) → Begins shown r → Met G P Q b s r
  -- none that begins with the reason for an A-until does
  pub all_unmet :
      (G : Chart) (P Q : ℕ → Type 0) (c s : ℕ) (shown : List Position) → AllReason G P Q c s shown →
      (r : Run G s) → Begins shown r → ¬ Met G P Q (at_most c) s r
  -- there is a reason just for "a marked E-until node, or an unmarked A-until node bounded by 'at most'"
  pub exists :
      (G : Chart) → Accepted G → (f : Formula) (s : ℕ) → s < states G →
      ((shown : List Position) × Reason G f s shown) ↔ Showable G f s
