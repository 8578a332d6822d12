-- An arrow tried: what it leads to does not lower the number of its start, or that number becomes a step more.
use mathlib.Core.Path.{◌≡◌, refl, sym, ap, subst}
use mathlib.Core.Logic.{◌⊎◌, inl, inr, by_cases}
use mathlib.Core.List.{List}
use mathlib.Core.Bool.{Bool, true, false}
use Prim.Native.Nat.{ℕ, suc, ◌+◌, ◌-◌, ◌*◌, ◌≤◌, ◌<◌}
use native.Mathlib.Omega.{arith}
use native.Mathlib.Decide.{dec_le, ℕ_discrete}
use lib.ListN.{length, set}
use lib.Seq.{get_or-set_same, get_or-set_other}
use borrow.Author.Tests.{ltb-true, ltb-false, lt-ltb, le-ltb}
use Rattle.tctl.specs.Chart.{Arrow}
use Rattle.model.proofs.Marks.{row_below}
use Rattle.shown.specs.Exact.{Takes}
use Rattle.exact_table.specs.Rows.{left_in, Word}
use Rattle.exact_table.specs.Lowered.{LeastAfter, Lowered, Level, Ways, Sound}

-- nothing was lowered, and nothing is by this arrow
pub record Still (n longest minute : ℕ) (a : Arrow) (r : Bool) (old new : List ℕ) : Type 0 where
  pub result : r ≡ false
  pub is : new ≡ old
  pub level : (d : ℕ) → Takes a longest d → Level n minute old a d

-- the number of the arrow's start was lowered
pub record Fell (n longest minute : ℕ) (a : Arrow) (r : Bool) (old new : List ℕ) : Type 0 where
  pub result : r ≡ true
  pub steps : ℕ
  pub after : LeastAfter n longest minute a old steps
  pub less : suc steps < left_in n old minute a.start
  pub is : new ≡ set old (minute * n + a.start) (suc steps)

pub lowered_cases :
    {n longest minute : ℕ} {a : Arrow} {r : Bool} {old new : List ℕ} → Lowered n longest minute a r old new →
    Still n longest minute a r old new ⊎ Fell n longest minute a r old new
lowered_cases {n} {minute = minute} {a} {r = true} {old} f =
    inr
    (record {
      result = refl;
      steps = f.steps;
      after = f.after;
      less = ltb-true (suc f.steps) (left_in n old minute a.start) (sym f.told);
      is = f.is;
    })
lowered_cases {n} {minute = minute} {a} {r = false} {old} f =
    let high = ltb-false (suc f.steps) (left_in n old minute a.start) (sym f.told) in
    inl (record { result = refl; is = f.is; level = λ d t. omega (arith, f.after.least d t) })

-- the arrow b, as a is read: what is found is a step more, and is less or not
module _
    {n longest minute : ℕ}
    {a b : Arrow}
    (same : a ≡ b)
    {old : List ℕ}
    {steps more : ℕ}
    (after : LeastAfter n longest minute a old steps)
    (one : more ≡ suc steps) where
  pub lowered_less :
      more < left_in n old minute a.start → Lowered n longest minute b true old (set old (minute * n + a.start) more)
  lowered_less l =
      subst (λ b. Lowered n longest minute b true old (set old (minute * n + a.start) more)) same
      (record {
        steps = steps;
        after = after;
        told = sym (lt-ltb (suc steps) (left_in n old minute a.start) (omega arith));
        is = ap (set old (minute * n + a.start)) one;
      })

  pub lowered_not : left_in n old minute a.start ≤ more → Lowered n longest minute b false old old
  lowered_not l =
      subst (λ b. Lowered n longest minute b false old old) same
      (record {
        steps = steps;
        after = after;
        told = sym (le-ltb (suc steps) (left_in n old minute a.start) (omega arith));
        is = refl;
      })

-- ── The number that is set ──

module _ {n longest minute : ℕ} {a : Arrow} {old : List ℕ} (word : Word n longest minute a old) where
  abbrev at : ℕ
  at = minute * n + a.start

  pub fits : minute * n + a.start < length old
  fits = omega (arith, word.start, word.room)

  pub set_here : (v : ℕ) → left_in n (set old (minute * n + a.start) v) minute a.start ≡ v
  set_here v = get_or-set_same old at v 0 fits

  -- the places outside the row are others
  pub off : (j : ℕ) → (j < minute * n) ⊎ (minute * n + n ≤ j) → ¬ (j ≡ minute * n + a.start)
  off j (inl h) e = omega arith
  off j (inr h) e = omega (arith, word.start)

  -- the numbers of rows below, and of other states in the row, stay
  pub set_other :
      (v m s : ℕ) → m ≤ minute → s < n → (m ≡ minute → ¬ (s ≡ a.start)) →
      left_in n (set old (minute * n + a.start) v) m s ≡ left_in n old m s
  set_other v m s l h other =
      get_or-set_other old at (m * n + s) v 0
      (λ e.
      by_cases (dec_le (suc m) minute) (λ k. let z : ⊥ = omega (arith, row_below n k) in z)
      (λ k.
      let same : m ≡ minute = omega arith in
      other same (let f = ap (λ m. m * n) same in omega arith)))

  -- ── After it fell ──

  module _ {r : Bool} {new : List ℕ} (c : Fell n longest minute a r old new) where
    abbrev v : ℕ
    v = suc c.steps

    pub fell_falls :
        (s : ℕ) → s < n →
        left_in n (set old (minute * n + a.start) (suc c.steps)) minute s ≤ left_in n old minute s
    fell_falls s l =
        by_cases (ℕ_discrete s a.start)
        (λ e.
        subst (λ s. left_in n (set old at v) minute s ≤ left_in n old minute s) (sym e)
        (omega (arith, set_here v, c.less)))
        (λ e. omega (arith, set_other v minute s (omega arith) l (λ _. e)))

    -- The new number is a step more than one that the arrow leads to, which is the steps of a way. All others stay.
    pub fell_sound :
        (way : Ways) →
        ((k d : ℕ) → Takes a minute d → way k (minute - d) a.end ≡ true → way (suc k) minute a.start ≡ true) →
        Sound way n minute old → Sound way n minute (set old (minute * n + a.start) (suc c.steps))
    fell_sound way extends sound m s l h =
        by_cases (ℕ_discrete m minute)
        (λ e.
        by_cases (ℕ_discrete s a.start)
        (λ f. subst (λ m. Says m s) (sym e) (subst (Says minute) (sym f) here))
        (λ f. other (λ _. f)))
        (λ e. other (λ f. absurd (e f)))
      where
        Says : ℕ → ℕ → Type 0
        Says m s = left_in n (set old at v) m s < 257 → way (left_in n (set old at v) m s) m s ≡ true

        here : Says minute a.start
        here small =
            let number = set_here v in
            let d = c.after.some (omega (arith, number)) in
            let takes : Takes a minute d.0 =
            record {
              inside = omega (arith, d.1.inside, word.short);
              least = d.1.least;
              greatest = d.1.greatest;
            } in
            let there = sound (minute - d.0) a.end (omega arith) word.end (omega (arith, d.2, number)) in
            subst (λ k. way k minute a.start ≡ true) (sym number)
            (extends c.steps d.0 takes (subst (λ k. way k (minute - d.0) a.end ≡ true) d.2 there))

        other : (m ≡ minute → ¬ (s ≡ a.start)) → Says m s
        other o small =
            let same = set_other v m s l h o in
            subst (λ k. way k m s ≡ true) (sym same) (sound m s l h (omega (arith, same)))
