-- A row written entry by entry, and what it leaves of the rows up to it.
use mathlib.Core.Path.{◌≡◌, refl, sym, ap, ◌∙◌}
use mathlib.Core.Logic.{inl, inr, by_cases}
use mathlib.Core.Bool.{Bool, true, false}
use mathlib.Core.List.{List}
use Prim.Native.Nat.{ℕ, ◌+◌, ◌*◌, ◌≤◌, ◌<◌}
use native.Mathlib.Omega.{arith}
use native.Mathlib.Decide.{dec_lt}
use mir.Val.{bool_byte}
use lib.ListN.{length, get_or, set, length-set}
use lib.Seq.{get_or-set_same, get_or-set_other}
use borrow.Author.Count.{below_more}
use Rattle.base.specs.Entries.{Entries}
use Rattle.model.specs.Marks.{bit}
use Rattle.model.proofs.Marks.{row_below}
use Rattle.fill.specs.Written.{Written, WrittenBy}

-- a mark that is stored
stored : (b : Bool) → bool_byte b ≡ bit b
stored true = refl
stored false = refl

pub mark_byte : {b c : Bool} → b ≡ c → bool_byte b ≡ bit c
mark_byte {b} e = stored b ∙ ap bit e

-- one mark more: it is what was said of its place, and no earlier one is written again
pub written_more :
    {at i k : ℕ} {says : ℕ → Bool → Type 0} {old new : List ℕ} {b : Bool} → WrittenBy at i says old new → k ≡ at + i →
    k < length old → says i b → WrittenBy at (i + 1) says old (set new k (bool_byte b))
written_more {at} {i} {k} {says} {old} {new} {b} w is l said =
    record {
      size = length-set new k (bool_byte b) ∙ w.size;
      here =
          below_more (λ s. (c : Bool) × says s c × (get_or later (at + s) 0 ≡ bit c)) i
          (λ s h. let u = w.here s h in (u.0, u.1, get_or-set_other new k (at + s) _ 0 (omega arith) ∙ u.2))
          (b, said, rw (sym is) (get_or-set_same new k _ 0 (omega (arith, w.size)) ∙ stored b));
      elsewhere = λ j h. get_or-set_other new k j _ 0 (omega (arith, h)) ∙ w.elsewhere j (grind arith);
    }
  where
    later : List ℕ
    later = set new k (bool_byte b)

-- what may be said of each place is as f says
pub written_by :
    {at count : ℕ} (f : ℕ → Bool) {says : ℕ → Bool → Type 0} {old new : List ℕ} → WrittenBy at count says old new →
    ((s : ℕ) (b : Bool) → s < count → says s b → b ≡ f s) → Written at count f old new
written_by f w same =
    record {
      size = w.size;
      here = λ s l. let u = w.here s l in u.2 ∙ ap bit (same s u.0 l u.1);
      elsewhere = w.elsewhere;
    }

-- marks that are written as entries
pub written :
    {at count : ℕ} (f : ℕ → Bool) {old new : List ℕ} → Entries at count (λ s. bit (f s)) old new →
    Written at count f old new
written f w = record { size = w.size; here = w.here; elsewhere = w.elsewhere }

-- entry i of a row up to t is the old one while row t is written up to i: a row below ends before row t, and in row t
-- itself the written entries end at i
pub row_next :
    {a t n i : ℕ} {f : ℕ → ℕ} {old new : List ℕ} → a ≤ t → i < n → Entries (t * n) i f old new →
    get_or new (a * n + i) 0 ≡ get_or old (a * n + i) 0
row_next {a} {t} {n} {i} h l w =
    w.elsewhere (a * n + i)
    (by_cases (dec_lt a t) (λ k. inl (omega (arith, row_below n k)))
    (λ k. inr (let e : a ≡ t = omega arith in rw e (omega arith))))
