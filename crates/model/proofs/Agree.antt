-- For every bound the untils by minutes are the engine's: the E-untils on every drawn chart, and the A-untils where every
-- state has a run.
use mathlib.Core.Path.{◌≡◌, sym, ◌∙◌}
use mathlib.Core.Bool.{Bool, true, false}
use Prim.Native.Nat.{ℕ, ◌+◌, ◌≤◌, ◌<◌}
use native.Mathlib.Omega.{arith}
use Rattle.base.proofs.Tabulate.{get_d_tabulate}
use Rattle.tctl.specs.Chart.{Chart, states}
use Rattle.tctl.specs.Formula.{Bound}
use Rattle.tctl.proofs.Drawn.{Drawn}
use Rattle.tctl.proofs.Run.{Lively}
use Rattle.tctl.proofs.Until.{until_weaken}
use Rattle.tctl.proofs.Unmet.{unmet_weaken}
use Rattle.minutes.specs.Untils.{counted}
use Rattle.minutes.proofs.Tests.{decide_same}
use Rattle.minutes.proofs.Bounds.{Beyond, never, always, beyond}
use Rattle.minutes.proofs.SomeCounted.{some_counted_iff}
use Rattle.model.specs.Decide.{ask, some_row, all_row}
use Rattle.model.proofs.Settles.{settles_iff}
use Rattle.model.proofs.CountedRow.{BeyondSettled, never_settled, counted_settles}
use Rattle.model.proofs.PlainAll.{plain_unmet, plain_met}
use Rattle.model.proofs.Untils.{some_path, all_until_lem}

pub some_agree :
    {G : Chart} → Drawn G → (p q : ℕ → Bool) (b : Bound) (s : ℕ) → s < states G →
    counted false b G.arrows (states G) p q s ≡ ask (some_row G.arrows (states G) b p q) s
some_agree dr p q b s l = decide_same _ _ (some_counted_iff dr p q b s l) (some_path dr p q s l b)

module _ {G : Chart} (dr : Drawn G) (live : Lively G) (p q : ℕ → Bool) (b : Bound) where
  -- a bound that is always met from then on is the until with no bound
  beyond_settled : Beyond G.arrows (states G) true p q b → BeyondSettled G p q b
  beyond_settled (never f same) = never_settled dr live p q b f same
  beyond_settled (always f same) =
      record {
        unmet = λ k s h l e.
            unmet_weaken (λ m i. omega arith) (plain_unmet dr live p q s l (sym (same s) ∙ e));
        met = λ k s h l e r.
            until_weaken (λ m i. f (k + m) (omega arith)) (plain_met dr live p q s l (sym (same s) ∙ e) r);
      }

  pub all_agree :
      (s : ℕ) → s < states G →
      counted true b G.arrows (states G) p q s ≡ ask (all_row G.arrows (states G) b p q) s
  all_agree s l =
      let right = beyond_settled (beyond G.arrows (states G) true p q b) in
      sym (get_d_tabulate (states G) (counted true b G.arrows (states G) p q) false s l) ∙
      decide_same _ _ (settles_iff (counted_settles dr live p q b right) s l) (all_until_lem dr p q s l live b)
