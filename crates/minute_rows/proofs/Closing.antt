-- A row that no arrow adds to is filled.
use mathlib.Core.Path.{◌≡◌, subst, ◌∙◌}
use mathlib.Core.Logic.{by_cases}
use mathlib.Core.List.{List, Memᴰ}
use mathlib.Core.Bool.{true}
use Prim.Native.Nat.{ℕ, suc, ◌≤◌, ◌<◌}
use native.Mathlib.Omega.{arith}
use native.Mathlib.Decide.{dec_le}
use Rattle.tctl.specs.Chart.{Chart, Arrow, states}
use Rattle.tctl.proofs.Drawn.{Drawn}
use Rattle.minutes.specs.Makes.{Task, goes_at}
use Rattle.minutes.specs.Table.{makes}
use Rattle.minutes.proofs.Latest.{latest_local}
use Rattle.minutes.proofs.OneRow.{Quiet}
use Rattle.minutes.proofs.Rounds.{filled}
use Rattle.moves.specs.Moves.{capped}
use Rattle.minute_rows.specs.Numbers.{answer}
use Rattle.minute_rows.specs.Filled.{leads_on, RowsFilled, Filling}
use Rattle.minute_rows.proofs.Answers.{leads_answers}

-- each arrow of the chart leads on only from where it is made
abbrev pub AllTried : Chart → Task → ℕ → ℕ → List ℕ → List ℕ → Type 0
AllTried G w n minute beyond numbers =
    (a : Arrow) → Memᴰ a G.arrows → goes_at w (suc minute) a.start ≡ true →
    leads_on n minute beyond numbers (capped a) ≡ true → answer n beyond numbers (suc minute) a.start ≡ true

filled_states :
    {G : Chart} → Drawn G → {w : Task} {minute : ℕ} (beyond : List ℕ) {numbers : List ℕ} → minute < 256 →
    Filling G (states G) w minute beyond numbers → AllTried G w (states G) minute beyond numbers →
    RowsFilled G (states G) w (suc minute) numbers
filled_states {G} dr {w} {minute} beyond {numbers} few f tried =
    record {
      last = λ m s l h.
          f.last m s (omega arith) h ∙
          latest_local (λ r. answer n beyond numbers r s) (λ r. makes G.arrows n w r s) (suc (suc m))
          (λ r k. right r s (omega arith) h);
    }
  where
    n : ℕ
    n = states G

    quiet : Quiet G w (answer n beyond numbers) (suc minute)
    quiet =
        record {
          begins = f.begins;
          closed = λ a k g e. tried a k g (leads_answers beyond numbers f.last a few (dr.ends a k) ∙ e);
        }

    right : (r s : ℕ) → r ≤ suc minute → s < n → answer n beyond numbers r s ≡ makes G.arrows n w r s
    right r s l h =
        by_cases (dec_le r minute) (λ k. f.right r s k h)
        (λ k.
        let e : suc minute ≡ r = omega arith in
        subst (λ r. answer n beyond numbers r s ≡ makes G.arrows n w r s) e
        (filled dr w (answer n beyond numbers) (suc minute) (λ i t j. f.right i t (omega arith)) f.sound quiet s h))

pub filled_row :
    {G : Chart} → Drawn G → {n : ℕ} → states G ≡ n → {w : Task} {minute : ℕ} (beyond : List ℕ) {numbers : List ℕ} →
    minute < 256 → Filling G n w minute beyond numbers → AllTried G w n minute beyond numbers →
    RowsFilled G n w (suc minute) numbers
filled_row {G} dr e {w} {minute} beyond {numbers} few =
    subst
    (λ n.
    Filling G n w minute beyond numbers → AllTried G w n minute beyond numbers → RowsFilled G n w (suc minute) numbers)
    e (filled_states dr beyond few)
