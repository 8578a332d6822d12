-- What following arrows leaves, one after another.
use mathlib.Core.Path.{◌≡◌, refl, sym, subst, ◌∙◌}
use mathlib.Core.Logic.{◌⊎◌, inl, inr, ⊎_elim}
use mathlib.Core.List.{List}
use mathlib.Core.Bool.{Bool, true}
use Prim.Native.Nat.{ℕ, suc, ◌+◌, ◌*◌, ◌≤◌, ◌<◌}
use native.Mathlib.Omega.{arith}
use lib.ListN.{length, length-set}
use lib.Seq.{get_or-set_other}
use Rattle.tctl.specs.Chart.{Arrow}
use Rattle.model.specs.Engine.{num}
use Rattle.moves.specs.Moves.{move_of}
use Rattle.minute_rows.specs.Filled.{Word, leads_on, added, Followed, Kept}
use Rattle.minute_rows.proofs.Added.{answer_kept}
use Rattle.minute_rows.proofs.Following.{followed_cases}
use Rattle.minute_rows.proofs.Sound.{filling_added}

module _ {n minute from to : ℕ} {words beyond : List ℕ} where
  pub kept_none : {old : List ℕ} → Kept n minute from to words beyond old old
  kept_none =
      record {
        size = refl;
        elsewhere = λ j h. refl;
        stays = λ s l e. e;
        right = λ G w dr e chart f. f;
      }

  pub kept_again :
      {old mid new : List ℕ} → Kept n minute from to words beyond old mid → Kept n minute from to words beyond mid new →
      Kept n minute from to words beyond old new
  kept_again k j =
      record {
        size = j.size ∙ k.size;
        elsewhere = λ i h. j.elsewhere i h ∙ k.elsewhere i h;
        stays = λ s l e. j.stays s l (k.stays s l e);
        right = λ G w dr e chart f. j.right G w dr e chart (k.right G w dr e chart f);
      }

  -- more words
  pub kept_to :
      {till : ℕ} {old new : List ℕ} → to ≤ till → Kept n minute from to words beyond old new →
      Kept n minute from till words beyond old new
  kept_to l k =
      record {
        size = k.size;
        elsewhere = k.elsewhere;
        stays = k.stays;
        right = λ G w dr e chart. k.right G w dr e (λ i a b. chart i a (omega arith));
      }

  pub kept_followed :
      {i : ℕ} {r : Bool} {old new : List ℕ} → from ≤ i → i < to → Word n minute (move_of (num words i)) beyond old →
      Followed n minute (move_of (num words i)) beyond r old new → Kept n minute from to words beyond old new
  kept_followed {i} {old = old} first last word f =
      ⊎_elim (λ c. subst (Kept n minute from to words beyond old) (sym c.is) kept_none)
      (λ c. subst (Kept n minute from to words beyond old) (sym c.is) (kept_added c.leads))
      (followed_cases f)
    where
      b : Arrow
      b = move_of (num words i)

      at : ℕ
      at = minute * n + b.start

      fits : at < length old
      fits = omega (arith, word.start, word.room)

      off : (j : ℕ) → (j < minute * n) ⊎ (minute * n + n ≤ j) → ¬ (j ≡ at)
      off j (inl h) e = omega arith
      off j (inr h) e = omega (arith, word.start)

      kept_added :
          leads_on n minute beyond old b ≡ true → Kept n minute from to words beyond old (added n minute b.start old)
      kept_added on =
          record {
            size = length-set old at (suc (suc minute));
            elsewhere = λ j h. get_or-set_other old at j (suc (suc minute)) 0 (off j h);
            stays = answer_kept n minute b.start beyond old fits;
            right = λ G w dr e chart. filling_added dr e beyond old b (chart i first last) word on;
          }
