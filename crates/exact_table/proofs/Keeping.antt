-- What trying arrows leaves, one after another.
use mathlib.Core.Path.{◌≡◌, refl, sym, subst, ◌∙◌}
use mathlib.Core.Logic.{inl, ⊎_elim}
use mathlib.Core.List.{List}
use mathlib.Core.Bool.{Bool}
use Prim.Native.Nat.{ℕ, suc, ◌+◌, ◌-◌, ◌*◌, ◌≤◌, ◌<◌}
use native.Mathlib.Omega.{arith}
use lib.ListN.{length-set}
use lib.Seq.{get_or-set_other}
use Rattle.tctl.specs.Chart.{Arrow}
use Rattle.model.specs.Engine.{num}
use Rattle.model.proofs.Marks.{row_below}
use Rattle.moves.specs.Moves.{move_of}
use Rattle.exact_table.specs.Rows.{left_in, Word}
use Rattle.exact_table.specs.Lowered.{Lowered, Level, Kept}
use Rattle.exact_table.proofs.Lowering.{lowered_cases, off, fell_falls, fell_sound}

module _ {n minute from to : ℕ} {words : List ℕ} where
  pub kept_none : {old : List ℕ} → Kept n minute from to words old old
  kept_none =
      record {
        size = refl;
        elsewhere = λ j h. refl;
        falls = λ s l. omega arith;
        sound = λ way e f. f;
      }

  pub kept_again :
      {old mid new : List ℕ} → Kept n minute from to words old mid → Kept n minute from to words mid new →
      Kept n minute from to words old new
  kept_again k j =
      record {
        size = j.size ∙ k.size;
        elsewhere = λ i h. j.elsewhere i h ∙ k.elsewhere i h;
        falls = λ s l. omega (arith, j.falls s l, k.falls s l);
        sound = λ way e f. j.sound way e (k.sound way e f);
      }

  -- more words
  pub kept_to :
      {till : ℕ} {old new : List ℕ} → to ≤ till → Kept n minute from to words old new →
      Kept n minute from till words old new
  kept_to l k =
      record {
        size = k.size;
        elsewhere = k.elsewhere;
        falls = k.falls;
        sound = λ way e. k.sound way (λ i a b. e i a (omega arith));
      }

  pub kept_lowered :
      {i longest : ℕ} {r : Bool} {old new : List ℕ} → from ≤ i → i < to →
      Word n longest minute (move_of (num words i)) old → Lowered n longest minute (move_of (num words i)) r old new →
      Kept n minute from to words old new
  kept_lowered {i} {old = old} first last word f =
      ⊎_elim (λ c. subst (Kept n minute from to words old) (sym c.is) kept_none)
      (λ c.
      let at = minute * n + (move_of (num words i)).start in
      let v = suc c.steps in
      subst (Kept n minute from to words old) (sym c.is)
      (record {
        size = length-set old at v;
        elsewhere = λ j h. get_or-set_other old at j v 0 (off word j h);
        falls = fell_falls word c;
        sound = λ way extends. fell_sound word c way (extends i first last);
      }))
      (lowered_cases f)

-- ── What stays level ──

-- rows below stay
pub below_kept :
    {n minute from to : ℕ} {words old new : List ℕ} → Kept n minute from to words old new → (m s : ℕ) → m < minute →
    s < n → left_in n new m s ≡ left_in n old m s
below_kept {n} kept m s l h = kept.elsewhere (m * n + s) (inl (omega (arith, row_below n l)))

-- an arrow taken in a minute at least leads to a row below, which stays
pub level_kept :
    {n minute from to : ℕ} {words old new : List ℕ} → Kept n minute from to words old new → (a : Arrow) → a.start < n →
    a.end < n → {d : ℕ} → 1 ≤ d → d ≤ minute → Level n minute old a d → Level n minute new a d
level_kept {minute = minute} kept a start end {d} some inside h =
    let under : minute - d < minute = omega arith in
    omega (arith, kept.falls a.start start, below_kept kept (minute - d) a.end under end)
