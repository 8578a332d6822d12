-- What A, at least c, starts from.
use Rattle.std.specs.Prelude.{◌≡◌, Bool, true, false, cond, not as neg, List, ℕ, ◌<◌}
use Rattle.base.specs.Tabulate.{tabulate}
use Rattle.tctl.specs.Chart.{Arrow}
use Rattle.model.specs.Decide.{ask, plain_row, sure_row}
use Rattle.hints.specs.Values.{values}
use Rattle.ways.specs.declared.Way.TheVariants.{Lower}
use Rattle.ways.specs.Way.{left_over}
use Rattle.visits.specs.Moves.{Ready}

-- for A, at least c: c where p holds and every arrow leads to where the until with no bound holds, else 0
unfoldable pub sure_start : List Arrow → ℕ → (ℕ → Bool) → (ℕ → Bool) → ℕ → List ℕ
sure_start arrows n p q c =
    let sure = sure_row arrows n p q in
    tabulate n (λ s. cond (neg (ask sure s)) 0 c)

-- where the answer is yes, the numbers are a sure start, with sides for every state gone through; else the until with
-- no bound holds nowhere
pub record Starts (r : Bool) (arrows : List Arrow) (n : ℕ) (p q : ℕ → Bool) (c : ℕ) (ns : List ℕ) : Type 0 where
  pub ready : r ≡ true → Ready Lower (λ s. true) ns
  pub is : r ≡ true → left_over (values ns) ≡ sure_start arrows n p q c
  pub nowhere : r ≡ false → (s : ℕ) → s < n → ask (plain_row arrows n p q) s ≡ false
