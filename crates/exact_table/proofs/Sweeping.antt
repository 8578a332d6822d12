-- Arrows tried one after another.
use mathlib.Core.Path.{◌≡◌, refl, sym, ap, subst, ◌∙◌}
use mathlib.Core.Logic.{◌⊎◌, inr, ⊎_elim, by_cases}
use mathlib.Core.List.{List}
use mathlib.Core.Bool.{Bool, true, false, false≢true, cond}
use Prim.Native.Nat.{ℕ, suc, ◌+◌, ◌-◌, ◌≤◌, ◌<◌}
use native.Mathlib.Omega.{arith}
use native.Mathlib.Decide.{dec_le}
use lib.ListN.{length}
use Rattle.base.specs.Sum.{total}
use Rattle.base.proofs.Sum.{total_set}
use Rattle.base.proofs.Truth.{true_or_false}
use Rattle.tctl.specs.Chart.{Arrow}
use Rattle.model.specs.Engine.{num}
use Rattle.shown.specs.Exact.{Takes}
use Rattle.moves.specs.Moves.{move_of}
use Rattle.exact_table.specs.Rows.{left_in, Word, Words}
use Rattle.exact_table.specs.Lowered.{Lowered, Level, Kept, Swept}
use Rattle.exact_table.proofs.Lowering.{Still, Fell, lowered_cases, fits, set_here}
use Rattle.exact_table.proofs.Keeping.{kept_none, kept_again, kept_to, kept_lowered, below_kept, level_kept}

-- what is asked of an arrow goes by how many numbers there are
pub word_still :
    {n longest minute : ℕ} {a : Arrow} {old new : List ℕ} → length new ≡ length old → Word n longest minute a old →
    Word n longest minute a new
word_still e w =
    record { start = w.start; end = w.end; short = w.short; few = w.few; room = omega (arith, w.room) }

pub words_still :
    {n longest minute from to : ℕ} {words old new : List ℕ} → length new ≡ length old →
    Words n longest minute from to words old → Words n longest minute from to words new
words_still e ws =
    record { order = ws.order; inside = ws.inside; arrows = λ i l h. word_still e (ws.arrows i l h) }

pub swept_none :
    {n longest minute from : ℕ} {words old : List ℕ} → Swept n longest minute from from words false old old
swept_none =
    record {
      kept = kept_none;
      tried = λ i d l h. absurd (let z : ⊥ = omega arith in z);
      same = λ e. refl;
      less = λ e. absurd (false≢true e);
    }

module _
    {n longest minute from to i next : ℕ}
    {words old mid : List ℕ}
    {told : Bool}
    (ws : Words n longest minute from to words old)
    (first : from ≤ i)
    (last : i < to)
    (on : next ≡ i + 1)
    (swept : Swept n longest minute from i words told old mid) where
  abbrev a : Arrow
  a = move_of (num words i)

  -- one arrow more
  abbrev SweptOn : Bool → List ℕ → Type 0
  SweptOn now new = Swept n longest minute from next words now old new

  -- for the arrows before i and for i
  up_to : (P : ℕ → Type 0) → ((j : ℕ) → from ≤ j → j < i → P j) → P i → (j : ℕ) → from ≤ j → j < next → P j
  up_to P before here j l h =
      by_cases (dec_le (suc j) i) (λ k. before j l k) (λ k. let z : i ≡ j = omega arith in subst P z here)

  word : (j : ℕ) → from ≤ j → j < next → Word n longest minute (move_of (num words j)) mid
  word j l h = word_still swept.kept.size (ws.arrows j l (omega arith))

  swept_still : {r : Bool} {new : List ℕ} → Still n longest minute a r mid new → SweptOn told new
  swept_still still =
      subst (SweptOn told) (sym still.is)
      (record {
        kept = kept_to (omega arith) swept.kept;
        tried = λ j d l h.
            up_to
            (λ j.
            Takes (move_of (num words j)) longest d → (told ≡ false) ⊎ (1 ≤ d) →
            Level n minute mid (move_of (num words j)) d)
            (λ j l h. swept.tried j d l h) (λ t w. still.level d t) j l h;
        same = swept.same;
        less = swept.less;
      })

  swept_fell :
      {r : Bool} {new : List ℕ} → Lowered n longest minute a r mid new → Fell n longest minute a r mid new →
      SweptOn true new
  swept_fell {r} {new} f c =
      record {
        kept = kept_again (kept_to (omega arith) swept.kept) kept;
        tried = λ j d l h t. ⊎_elim (λ e. absurd (false≢true (sym e))) (λ e. later d e j l h t);
        same = λ e. absurd (false≢true (sym e));
        less = λ e. ⊎_elim (λ e. omega (arith, swept.less e, fall)) first_one (true_or_false told);
      }
    where
      low : Word n longest minute a mid
      low = word i first (omega arith)

      kept : Kept n minute from next words mid new
      kept = kept_lowered first (omega arith) low f

      -- the sum falls by as much as the number does
      fall : total (λ v. v) new < total (λ v. v) mid
      fall =
          let set = total_set (λ v. v) mid _ (suc c.steps) (fits low) in
          omega (arith, set, c.less, ap (total (λ v. v)) c.is)

      -- what it leads to in a minute at least is in a row below
      here : (d : ℕ) → 1 ≤ d → Takes a longest d → Level n minute new a d
      here d some t =
          let inside : d ≤ minute = omega (arith, t.inside, low.short) in
          let under : minute - d < minute = omega arith in
          let number = ap (λ l. left_in n l minute a.start) c.is ∙ set_here low (suc c.steps) in
          omega (arith, number, c.after.least d t, below_kept kept (minute - d) a.end under low.end)

      later :
          (d : ℕ) → 1 ≤ d → (j : ℕ) → from ≤ j → j < next → Takes (move_of (num words j)) longest d →
          Level n minute new (move_of (num words j)) d
      later d some =
          up_to (λ j. Takes (move_of (num words j)) longest d → Level n minute new (move_of (num words j)) d)
          (λ j l h t.
          let w = word j l (omega arith) in
          level_kept kept (move_of (num words j)) w.start w.end some (omega (arith, t.inside, w.short))
          (swept.tried j d l h t (inr some)))
          (here d some)

      first_one : told ≡ false → total (λ v. v) new < total (λ v. v) old
      first_one e = omega (arith, fall, ap (total (λ v. v)) (swept.same e))

  -- what was lowered is told from there on
  pub swept_lowered :
      {word : ℕ} {r now : Bool} {new : List ℕ} → word ≡ num words i →
      Lowered n longest minute (move_of word) r mid new →
      ((r ≡ true) × (now ≡ true)) ⊎ ((r ≡ false) × (now ≡ told)) → SweptOn now new
  swept_lowered {r = r} {now} {new} is f came =
      ⊎_elim (λ still. tells false still.result (swept_still still))
      (λ c. tells true c.result (swept_fell by c)) (lowered_cases by)
    where
      by : Lowered n longest minute a r mid new
      by = subst (λ w. Lowered n longest minute (move_of w) r mid new) is f

      tells : (b : Bool) → r ≡ b → SweptOn (cond b true told) new → SweptOn now new
      tells b e =
          let same : now ≡ cond b true told =
          ⊎_elim (λ w. rw (sym e ∙ w.0) w.1) (λ w. rw (sym e ∙ w.0) w.1) came in
          subst (λ b. SweptOn b new) (sym same)
