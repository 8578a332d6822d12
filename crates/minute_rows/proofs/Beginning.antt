-- A row begun above filled rows is one that is being filled.
use mathlib.Core.Path.{◌≡◌, refl, sym, ap, ap₂, subst, ◌∙◌}
use mathlib.Core.Logic.{inl, by_cases}
use mathlib.Core.List.{List}
use mathlib.Core.Bool.{Bool, true, false, cond}
use Prim.Native.Nat.{ℕ, zero, suc, ◌+◌, ◌*◌, ◌≤◌, ◌<◌}
use native.Mathlib.Omega.{arith}
use native.Mathlib.Decide.{dec_le}
use lib.Dec.{eqb}
use borrow.Author.Tests.{eq-eqb, ne_eqb}
use Rattle.base.specs.Entries.{Entries}
use Rattle.tctl.specs.Chart.{Chart}
use Rattle.model.specs.Engine.{num}
use Rattle.model.specs.Marks.{bit, flag}
use Rattle.model.proofs.Marks.{row_below}
use Rattle.minutes.specs.Makes.{Task, stops, stops_at}
use Rattle.minutes.specs.Table.{latest, makes}
use Rattle.minutes.proofs.Beyond.{makes_beyond}
use Rattle.minutes.proofs.Latest.{latest_le, latest_local}
use Rattle.minute_rows.specs.Numbers.{last_below, answer}
use Rattle.minute_rows.specs.Filled.{RowsFilled, Filling}
use Rattle.minute_rows.proofs.Local.{answer_local}

-- a number below k is k only where it is chosen
chosen : (b : Bool) {v k : ℕ} → v < k → eqb (cond b k v) k ≡ b
chosen true {k = k} l = eq-eqb k k refl
chosen false {v} {k} l = ne_eqb v k (λ e. omega arith)

module _
    {G : Chart}
    {n : ℕ}
    (w : Task)
    (beyond : List ℕ)
    (is-beyond : (s : ℕ) → w.beyond s ≡ flag beyond s)
    {minute : ℕ}
    {old new : List ℕ}
    (filled : RowsFilled G n w minute old)
    (stop : ℕ → Bool)
    (is_stop : (s : ℕ) → stops_at w (suc minute) s ≡ stop s)
    (begun :
    Entries (minute * n) n (λ s. cond (stop s) (suc (suc minute)) (last_below n beyond old s (suc minute)))
    old new) where
  abbrev made : ℕ → ℕ → Bool
  made s r = makes G.arrows n w r s

  -- the row beyond is as it is lent, for nothing goes on from there
  made_beyond : (s : ℕ) → flag beyond s ≡ made s 0
  made_beyond s = sym (makes_beyond G.arrows n w s ∙ is-beyond s)

  last_made : (k s : ℕ) → k ≤ suc minute → s < n → last_below n beyond old s k ≡ latest (made s) k
  unfolding latest
  last_made zero s l h = refl
  last_made (suc zero) s l h = ap bit (made_beyond s)
  last_made (suc (suc m)) s l h = filled.last m s (omega arith) h

  old_right : (r s : ℕ) → r ≤ minute → s < n → answer n beyond old r s ≡ made s r
  unfolding latest
  old_right zero s l h = made_beyond s
  old_right (suc m) s l h =
      ap (λ v. eqb v (suc (suc m))) (filled.last m s l h) ∙
      chosen (made s (suc m)) (omega (arith, latest_le (made s) (suc m)))

  same : (j : ℕ) → j < minute * n → num new j ≡ num old j
  same j l = begun.elsewhere j (inl l)

  right : (r s : ℕ) → r ≤ minute → s < n → answer n beyond new r s ≡ made s r
  right r s l h = answer_local n minute beyond old new same r s l h ∙ old_right r s l h

  number : (s : ℕ) → s < n → num new (minute * n + s) ≡ cond (stop s) (suc (suc minute)) (latest (made s) (suc minute))
  number s h =
      begun.here s h ∙ ap (cond (stop s) (suc (suc minute))) (last_made (suc minute) s (omega arith) h)

  row : (s : ℕ) → s < n → answer n beyond new (suc minute) s ≡ stop s
  row s h =
      ap (λ v. eqb v (suc (suc minute))) (number s h) ∙
      chosen (stop s) (omega (arith, latest_le (made s) (suc minute)))

  -- the last of the rows below is the same by the answers
  below : (m s : ℕ) → m ≤ minute → s < n → latest (made s) (suc m) ≡ latest (λ r. answer n beyond new r s) (suc m)
  below m s l h = latest_local (made s) (λ r. answer n beyond new r s) (suc m) (λ r k. sym (right r s (omega arith) h))

  last_here :
      (s : ℕ) → s < n → num new (minute * n + s) ≡ latest (λ r. answer n beyond new r s) (suc (suc minute))
  unfolding latest
  last_here s h =
      number s h ∙ ap₂ (λ b v. cond b (suc (suc minute)) v) (sym (row s h)) (below minute s (omega arith) h)

  pub filling_begun : Filling G n w minute beyond new
  filling_begun =
      record {
        last = λ m s l h.
            by_cases (dec_le (suc m) minute)
            (λ k. same (m * n + s) (omega (arith, row_below n k)) ∙ filled.last m s k h ∙ below (suc m) s k h)
            (λ k.
            let e : minute ≡ m = omega arith in
            subst (λ m. num new (m * n + s) ≡ latest (λ r. answer n beyond new r s) (suc (suc m))) e (last_here s h));
        right = right;
        sound = λ s h e. stops (is_stop s ∙ sym (row s h) ∙ e);
        begins = λ s h e. row s h ∙ sym (is_stop s) ∙ e;
      }
