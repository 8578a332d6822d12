-- An arrow followed, by what the numbers say of its start and of its end.
use mathlib.Core.Path.{◌≡◌, refl, sym, ap, subst, ◌∙◌}
use mathlib.Core.Logic.{◌⊎◌, inl, inr, ⊎_elim}
use mathlib.Core.List.{List}
use mathlib.Core.Bool.{Bool, true, false, false≢true, ◌&&◌}
use mathlib.Core.Bool.{not as neg}
use Prim.Native.Nat.{ℕ, suc, ◌+◌, ◌*◌}
use lib.ListN.{set}
use borrow.Author.Tests.{eq-eqb, ne_eqb, not-true}
use Rattle.base.proofs.Truth.{true_or_false, and_iff, and_false}
use Rattle.tctl.specs.Chart.{Arrow}
use Rattle.model.specs.Engine.{num}
use Rattle.minute_rows.specs.Numbers.{answer}
use Rattle.minute_rows.specs.Filled.{leads_on, added, Followed}

and_no : (b : Bool) → (b && false) ≡ false
and_no true = refl
and_no false = refl

-- the arrow b, as a is read
module _ (n minute : ℕ) {a b : Arrow} (same : a ≡ b) (beyond old : List ℕ) where
  abbrev made : Bool
  made = answer n beyond old (suc minute) a.start

  by_read : (r : Bool) (new : List ℕ) → Followed n minute a beyond r old new → Followed n minute b beyond r old new
  by_read r new = subst (λ c. Followed n minute c beyond r old new) same

  -- its start makes it already
  pub followed_made :
      num old (minute * n + a.start) ≡ suc (suc minute) → Followed n minute b beyond false old old
  followed_made e = by_read false old (record { told = rw (eq-eqb _ _ e); is = refl })

  -- it does not lead on
  pub followed_not :
      {on : Bool} → on ≡ leads_on n minute beyond old a → on ≡ false → Followed n minute b beyond false old old
  followed_not h e = by_read false old (record { told = rw (← h, e) (sym (and_no (neg made))); is = refl })

  pub followed_new :
      ¬ (num old (minute * n + a.start) ≡ suc (suc minute)) →
      {on : Bool} → on ≡ leads_on n minute beyond old a → on ≡ true → (v : ℕ) → v ≡ suc (suc minute) →
      Followed n minute b beyond true old (set old (minute * n + a.start) v)
  followed_new o h e v is =
      by_read true (set old (minute * n + a.start) v)
      (record { told = rw (ne_eqb _ _ o, ← h, e); is = ap (set old (minute * n + a.start)) is })

-- what following an arrow did, by whether anything is new
pub record Still (n minute : ℕ) (a : Arrow) (beyond : List ℕ) (r : Bool) (old new : List ℕ) : Type 0 where
  pub result : r ≡ false
  pub is : new ≡ old
  pub tried : leads_on n minute beyond old a ≡ true → answer n beyond old (suc minute) a.start ≡ true

pub record New (n minute : ℕ) (a : Arrow) (beyond : List ℕ) (r : Bool) (old new : List ℕ) : Type 0 where
  pub result : r ≡ true
  pub is : new ≡ added n minute a.start old
  pub before : answer n beyond old (suc minute) a.start ≡ false
  pub leads : leads_on n minute beyond old a ≡ true

pub followed_cases :
    {n minute : ℕ} {a : Arrow} {beyond : List ℕ} {r : Bool} {old new : List ℕ} → Followed n minute a beyond r old new →
    Still n minute a beyond r old new ⊎ New n minute a beyond r old new
followed_cases {n} {minute} {a} {beyond} {r = true} {old} f =
    let was = answer n beyond old (suc minute) a.start in
    let both = (and_iff (neg was) (leads_on n minute beyond old a)).0 (sym f.told) in
    inr (record { result = refl; is = f.is; before = not-true was both.0; leads = both.1 })
followed_cases {n} {minute} {a} {beyond} {r = false} {old} f =
    let was = answer n beyond old (suc minute) a.start in
    let not_on = and_false (neg was) (leads_on n minute beyond old a) (sym f.told) in
    inl
    (record {
      result = refl;
      is = f.is;
      tried = λ e.
          ⊎_elim (λ i. i) (λ i. absurd (false≢true (sym (not_on (ap neg i)) ∙ e))) (true_or_false was);
    })
