-- Links of no arrow, and of one arrow more.
use mathlib.Core.Path.{◌≡◌, sym, ap, subst, subst₂, ◌∙◌}
use mathlib.Core.List.{List}
use Prim.Native.Nat.{ℕ, ◌+◌, ◌≤◌, ◌<◌}
use native.Mathlib.Omega.{arith}
use native.Mathlib.Decide.{ℕ_discrete}
use lib.ListN.{length, set, length-set}
use lib.Seq.{get_or-set_same, get_or-set_other}
use Rattle.base.specs.Entries.{Entries}
use Rattle.model.specs.Engine.{num}
use Rattle.chart.specs.Bytes.{arrow_words}
use Rattle.arrow_links.specs.Linked.{Lowest, Linked}

module _ {chart : List ℕ} {n m : ℕ} where
  pub linked_none :
      {old firsts nexts : List ℕ} → Entries 0 n (λ s. m) old firsts → n ≤ length old → m ≤ length nexts →
      Linked chart n m m firsts nexts
  linked_none {old} {firsts} {nexts} w l k =
      record {
        room_firsts = omega (arith, w.size);
        room_nexts = k;
        first = λ s h. subst (Lowest chart m s m) (sym (ap (num firsts) (omega arith) ∙ w.here s h)) none;
        next = λ i u h. absurd (let z : ⊥ = omega arith in z);
      }
    where
      none : {s : ℕ} → Lowest chart m s m m
      none =
          record {
            up = omega arith;
            most = omega arith;
            leaves = λ h. absurd (let z : ⊥ = omega arith in z);
            under = λ j u h e. omega arith;
          }

  -- links from a number, under another name of it
  pub linked_from :
      {firsts nexts : List ℕ} {low low' : ℕ} → Linked chart n m low firsts nexts → low ≡ low' →
      Linked chart n m low' firsts nexts
  linked_from {firsts} {nexts} w e = subst (λ low. Linked chart n m low firsts nexts) e w

  -- Arrow i is the lowest from its start s now, and the next after it is what was the lowest there. Other states have
  -- the lowest that they had, since i leaves none of them.
  pub linked_more :
      {firsts nexts : List ℕ} {low i s : ℕ} → Linked chart n m low firsts nexts → low ≡ i + 1 → i < m → s < n →
      (arrow_words chart i).start ≡ s → Linked chart n m i (set firsts s i) (set nexts i (num firsts s))
  linked_more {firsts} {nexts} {low} {i} {s} v is l k e =
      record {
        room_firsts = simp length-set w.room_firsts;
        room_nexts = simp length-set w.room_nexts;
        first = λ t h. first t h (ℕ_discrete t s);
        next = λ j u h. next j u h (ℕ_discrete j i);
      }
    where
      w : Linked chart n m (i + 1) firsts nexts
      w = linked_from v is

      here : Lowest chart m s i i
      here =
          record { up = omega arith; most = omega arith; leaves = λ h. e; under = λ j u h f. u }

      -- an arrow from t is not i
      elsewhere : (t x : ℕ) → ¬ (t ≡ s) → Lowest chart m t (i + 1) x → Lowest chart m t i x
      elsewhere t x d y =
          record {
            up = omega (arith, y.up);
            most = y.most;
            leaves = y.leaves;
            under = λ j u h f. y.under j (above j u f (ℕ_discrete j i)) h f;
          }
        where
          above : (j : ℕ) → i ≤ j → (arrow_words chart j).start ≡ t → Dec (j ≡ i) → i + 1 ≤ j
          above j u f (yes z) = absurd (d (sym f ∙ ap (λ x. (arrow_words chart x).start) z ∙ e))
          above j u f (no z) = omega arith

      first : (t : ℕ) → t < n → Dec (t ≡ s) → Lowest chart m t i (num (set firsts s i) t)
      first t h (yes z) =
          subst (λ t. Lowest chart m t i (num (set firsts s i) t)) (sym z)
          (subst (Lowest chart m s i) (sym (get_or-set_same firsts s i 0 (omega (arith, w.room_firsts)))) here)
      first t h (no z) =
          subst (Lowest chart m t i) (sym (get_or-set_other firsts s t i 0 z))
          (elsewhere t (num firsts t) z (w.first t h))

      next :
          (j : ℕ) → i ≤ j → j < m → Dec (j ≡ i) →
          Lowest chart m (arrow_words chart j).start (j + 1) (num (set nexts i (num firsts s)) j)
      next j u h (yes z) =
          subst (λ j. Lowest chart m (arrow_words chart j).start (j + 1) (num (set nexts i (num firsts s)) j)) (sym z)
          (subst₂ (λ t x. Lowest chart m t (i + 1) x) (sym e)
          (sym (get_or-set_same nexts i _ 0 (omega (arith, w.room_nexts)))) (w.first s k))
      next j u h (no z) =
          subst (Lowest chart m (arrow_words chart j).start (j + 1)) (sym (get_or-set_other nexts i j _ 0 z))
          (w.next j (omega arith) h)
