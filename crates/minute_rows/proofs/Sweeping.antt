-- Arrows followed one after another.
use mathlib.Core.Path.{◌≡◌, refl, sym, ap, subst, ◌∙◌}
use mathlib.Core.Logic.{◌⊎◌, inl, inr, ⊎_elim, by_cases}
use mathlib.Core.List.{List}
use mathlib.Core.Bool.{Bool, true, false, false≢true, cond}
use Prim.Native.Nat.{ℕ, suc, ◌+◌, ◌-◌, ◌≤◌, ◌<◌}
use native.Mathlib.Omega.{arith}
use native.Mathlib.Decide.{dec_le}
use lib.ListN.{length}
use lib.Dec.{ltb}
use Rattle.base.proofs.Truth.{true_or_false}
use Rattle.tctl.specs.Chart.{Arrow}
use Rattle.model.specs.Engine.{num}
use Rattle.minutes.specs.Table.{farthest}
use Rattle.moves.specs.Moves.{move_of}
use Rattle.minute_rows.specs.Numbers.{answer}
use Rattle.minute_rows.specs.Filled.{Word, Words, leads_on, Followed, Kept, Tried, Grown, Swept}
use Rattle.minute_rows.proofs.Local.{last_local}
use Rattle.minute_rows.proofs.Added.{answer_added}
use Rattle.minute_rows.proofs.Following.{Still, New, followed_cases}
use Rattle.minute_rows.proofs.Keeping.{kept_none, kept_again, kept_to, kept_followed}

-- what is asked of an arrow goes by how many numbers there are
pub word_still :
    {n minute : ℕ} {a : Arrow} {beyond old new : List ℕ} → length new ≡ length old → Word n minute a beyond old →
    Word n minute a beyond new
word_still e w =
    record {
      start = w.start;
      end = w.end;
      slot = w.slot;
      wide = w.wide;
      room = omega (arith, w.room);
      few = w.few;
    }

pub words_still :
    {n minute from to : ℕ} {words beyond old new : List ℕ} → length new ≡ length old →
    Words n minute from to words beyond old → Words n minute from to words beyond new
words_still e ws =
    record { order = ws.order; inside = ws.inside; arrows = λ i l h. word_still e (ws.arrows i l h) }

-- an arrow that takes a minute leads to rows below, which stay
pub tried_later :
    {n minute from to : ℕ} {words beyond old new : List ℕ} → Kept n minute from to words beyond old new → (i : ℕ) →
    Word n minute (move_of (num words i)) beyond old → 1 ≤ (move_of (num words i)).fewest →
    Tried n minute words beyond old i → Tried n minute words beyond new i
tried_later {n} {minute} {words = words} {beyond} {old} {new} kept i word later tried e =
    let a = move_of (num words i) in
    let below =
    last_local n minute beyond old new (λ j l. kept.elsewhere j (inl l)) (suc (suc minute - a.fewest)) a.end
    (omega arith) word.end in
    let same : leads_on n minute beyond new a ≡ leads_on n minute beyond old a =
    ap (ltb (farthest (suc minute) a.most)) below in
    kept.stays a.start word.start (tried (sym same ∙ e))

pub swept_none :
    {n minute from : ℕ} {words beyond old : List ℕ} → Swept n minute from from words beyond false old old
swept_none =
    record {
      kept = kept_none;
      tried = λ i l h. absurd (let z : ⊥ = omega arith in z);
      same = λ e. refl;
      more = λ e. absurd (false≢true e);
    }

module _
    {n minute from to i next : ℕ}
    {words beyond old mid : List ℕ}
    {told : Bool}
    (ws : Words n minute from to words beyond old)
    (first : from ≤ i)
    (last : i < to)
    (on : next ≡ i + 1)
    (swept : Swept n minute from i words beyond told old mid) where
  abbrev a : Arrow
  a = move_of (num words i)

  -- one arrow more
  abbrev SweptOn : Bool → List ℕ → Type 0
  SweptOn now new = Swept n minute from next words beyond now old new

  -- for the arrows before i and for i
  up_to : (P : ℕ → Type 0) → ((j : ℕ) → from ≤ j → j < i → P j) → P i → (j : ℕ) → from ≤ j → j < next → P j
  up_to P before here j l h =
      by_cases (dec_le (suc j) i) (λ k. before j l k) (λ k. let z : i ≡ j = omega arith in subst P z here)

  word : (j : ℕ) → from ≤ j → j < next → Word n minute (move_of (num words j)) beyond mid
  word j l h = word_still swept.kept.size (ws.arrows j l (omega arith))

  swept_still : {r : Bool} {new : List ℕ} → Still n minute a beyond r mid new → SweptOn told new
  swept_still still =
      subst (SweptOn told) (sym still.is)
      (record {
        kept = kept_to (omega arith) swept.kept;
        tried =
            up_to (λ j. (told ≡ false) ⊎ (1 ≤ (move_of (num words j)).fewest) → Tried n minute words beyond mid j)
            swept.tried (λ h. still.tried);
        same = swept.same;
        more = swept.more;
      })

  swept_new :
      {r : Bool} {new : List ℕ} → Followed n minute a beyond r mid new → New n minute a beyond r mid new →
      SweptOn true new
  swept_new {new = new} f c =
      record {
        kept = kept_again (kept_to (omega arith) swept.kept) kept;
        tried = λ j l h. ⊎_elim (λ e. absurd (false≢true (sym e))) (λ e. later j l h e);
        same = λ e. absurd (false≢true (sym e));
        more = λ e. ⊎_elim more first_one (true_or_false told);
      }
    where
      low : Word n minute a beyond mid
      low = word i first (omega arith)

      kept : Kept n minute from next words beyond mid new
      kept = kept_followed first (omega arith) low f

      made : answer n beyond new (suc minute) a.start ≡ true
      made =
          subst (λ l. answer n beyond l (suc minute) a.start ≡ true) (sym c.is)
          (answer_added n minute a.start beyond mid (omega (arith, low.start, low.room)))

      later : (j : ℕ) → from ≤ j → j < next → 1 ≤ (move_of (num words j)).fewest → Tried n minute words beyond new j
      later =
          up_to (λ j. 1 ≤ (move_of (num words j)).fewest → Tried n minute words beyond new j)
          (λ j l h e. tried_later kept j (word j l (omega arith)) e (swept.tried j l h (inr e))) (λ e on. made)

      more : told ≡ true → Grown n minute beyond old new
      more e =
          let m = swept.more e in
          (m.0, m.1, m.2, kept.stays m.0 m.1 m.3)

      first_one : told ≡ false → Grown n minute beyond old new
      first_one e =
          let was = subst (λ l. answer n beyond l (suc minute) a.start ≡ false) (swept.same e) c.before in
          (a.start, low.start, was, made)

  -- what is new is told from there on
  pub swept_followed :
      {word : ℕ} {r now : Bool} {new : List ℕ} → word ≡ num words i →
      Followed n minute (move_of word) beyond r mid new →
      ((r ≡ true) × (now ≡ true)) ⊎ ((r ≡ false) × (now ≡ told)) → SweptOn now new
  swept_followed {r = r} {now} {new} is f came =
      ⊎_elim (λ still. tells false still.result (swept_still still))
      (λ c. tells true c.result (swept_new by c)) (followed_cases by)
    where
      by : Followed n minute a beyond r mid new
      by = subst (λ w. Followed n minute (move_of w) beyond r mid new) is f

      tells : (b : Bool) → r ≡ b → SweptOn (cond b true told) new → SweptOn now new
      tells b e =
          let same : now ≡ cond b true told =
          ⊎_elim (λ w. rw (sym e ∙ w.0) w.1) (λ w. rw (sym e ∙ w.0) w.1) came in
          subst (λ b. SweptOn b new) (sym same)
