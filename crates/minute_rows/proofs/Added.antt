-- An answer added to a row: its number becomes that of the row.
use mathlib.Core.Path.{◌≡◌, refl, sym, ap, subst, ◌∙◌}
use mathlib.Core.Logic.{by_cases}
use mathlib.Core.List.{List}
use mathlib.Core.Bool.{true}
use Prim.Native.Nat.{ℕ, zero, suc, ◌+◌, ◌*◌, ◌≤◌, ◌<◌}
use native.Mathlib.Omega.{arith}
use native.Mathlib.Decide.{dec_le, ℕ_discrete}
use lib.ListN.{length}
use lib.Seq.{get_or-set_same, get_or-set_other}
use lib.Dec.{eqb}
use borrow.Author.Tests.{eq-eqb}
use Rattle.model.specs.Engine.{num}
use Rattle.model.proofs.Marks.{row_below}
use Rattle.minutes.specs.Table.{latest}
use Rattle.minutes.proofs.Latest.{latest_here, latest_local}
use Rattle.minute_rows.specs.Numbers.{answer}
use Rattle.minute_rows.specs.Filled.{added, Latest}

module _ (n minute u : ℕ) (beyond old : List ℕ) where
  abbrev new : List ℕ
  new = added n minute u old

  -- the numbers below, and of others in the row, stay
  stays :
      (m s : ℕ) → m ≤ minute → s < n → (m ≡ minute → ¬ (s ≡ u)) → num new (m * n + s) ≡ num old (m * n + s)
  stays m s l h other =
      get_or-set_other old (minute * n + u) (m * n + s) (suc (suc minute)) 0
      (λ e.
      by_cases (dec_le (suc m) minute) (λ k. let z : ⊥ = omega (arith, row_below n k) in z)
      (λ k.
      let same : m ≡ minute = omega arith in
      other same (let f = ap (λ m. m * n) same in omega arith)))

  pub answer_stays :
      (r s : ℕ) → r ≤ suc minute → s < n → (r ≡ suc minute → ¬ (s ≡ u)) →
      answer n beyond new r s ≡ answer n beyond old r s
  answer_stays zero s l h other = refl
  answer_stays (suc m) s l h other =
      ap (λ v. eqb v (suc (suc m))) (stays m s (omega arith) h (λ e. other (ap suc e)))

  module _ (fits : minute * n + u < length old) where
    made : num new (minute * n + u) ≡ suc (suc minute)
    made = get_or-set_same old (minute * n + u) (suc (suc minute)) 0 fits

    pub answer_added : answer n beyond new (suc minute) u ≡ true
    answer_added = eq-eqb _ _ made

    pub answer_kept :
        (s : ℕ) → s < n → answer n beyond old (suc minute) s ≡ true → answer n beyond new (suc minute) s ≡ true
    answer_kept s h e =
        by_cases (ℕ_discrete s u) (λ i. subst (λ s. answer n beyond new (suc minute) s ≡ true) (sym i) answer_added)
        (λ i. answer_stays (suc minute) s (omega arith) h (λ j. i) ∙ e)

    latest_others : Latest n minute beyond old → (m s : ℕ) → m ≤ minute → s < n → (m ≡ minute → ¬ (s ≡ u)) →
        num new (m * n + s) ≡ latest (λ r. answer n beyond new r s) (suc (suc m))
    latest_others last m s l h other =
        stays m s l h other ∙ last m s l h ∙
        latest_local (λ r. answer n beyond old r s) (λ r. answer n beyond new r s) (suc (suc m))
        (λ r k. sym (answer_stays r s (omega arith) h (λ e. other (omega arith))))

    pub latest_added : u < n → Latest n minute beyond old → Latest n minute beyond new
    latest_added low last m s l h =
        by_cases (ℕ_discrete m minute)
        (λ e.
        by_cases (ℕ_discrete s u)
        (λ i.
        subst (λ m. num new (m * n + s) ≡ latest (λ r. answer n beyond new r s) (suc (suc m))) (sym e)
        (subst (λ s. num new (minute * n + s) ≡ latest (λ r. answer n beyond new r s) (suc (suc minute))) (sym i)
        (made ∙ sym (latest_here (λ r. answer n beyond new r u) (suc minute) answer_added))))
        (λ i. latest_others last m s l h (λ j. i)))
        (λ e. latest_others last m s l h (λ j i. e j))
