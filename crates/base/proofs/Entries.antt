-- Entries that are written one by one, and written again.
use mathlib.Core.Path.{◌≡◌, refl, sym, ap, subst, ◌∙◌}
use mathlib.Core.Logic.{◌⊎◌, inl, inr}
use mathlib.Core.List.{List}
use Prim.Native.Nat.{ℕ, ◌+◌, ◌≤◌, ◌<◌}
use native.Mathlib.Omega.{arith}
use lib.ListN.{length, get_or, set, length-set}
use lib.Seq.{get_or-set_same, get_or-set_other}
use borrow.Author.Count.{below_none, below_more}
use Rattle.base.specs.Entries.{Entries}

-- what f reads of entries at places that differ is as g says, and of one more after it is set
pub set_more :
    (f : ℕ → ℕ) (at : ℕ → ℕ) (vs : List ℕ) (i v : ℕ) (g : ℕ → ℕ) → ((s : ℕ) → s < i → ¬ (at s ≡ at i)) →
    at i < length vs → f v ≡ g i → ((s : ℕ) → s < i → f (get_or vs (at s) 0) ≡ g s) →
    (s : ℕ) → s < i + 1 → f (get_or (set vs (at i) v) (at s) 0) ≡ g s
set_more f at vs i v g apart l e h =
    below_more (λ s. f (get_or (set vs (at i) v) (at s) 0) ≡ g s) i
    (λ s k. ap f (get_or-set_other vs (at i) (at s) v 0 (apart s k)) ∙ h s k)
    (ap f (get_or-set_same vs (at i) v 0 l) ∙ e)

module _ {at : ℕ} {f : ℕ → ℕ} {old : List ℕ} where
  pub entries_none : Entries at 0 f old old
  entries_none = record { size = refl; here = below_none _; elsewhere = λ j h. refl }

  pub entries_more :
      {i k : ℕ} {new : List ℕ} {v : ℕ} → Entries at i f old new → k ≡ at + i → k < length old → v ≡ f i →
      Entries at (i + 1) f old (set new k v)
  entries_more {i} {k} {new} {v} w is l e =
      record {
        size = length-set new k v ∙ w.size;
        here =
            subst (λ k. (s : ℕ) → s < i + 1 → get_or (set new k v) (at + s) 0 ≡ f s) (sym is)
            (set_more (λ v. v) (λ s. at + s) new i v f (λ s h k. omega arith) (omega (arith, w.size)) e w.here);
        elsewhere = λ j h. get_or-set_other new k j v 0 (off j h) ∙ w.elsewhere j (nearer j h);
      }
    where
      off : (j : ℕ) → (j < at) ⊎ (at + (i + 1) ≤ j) → ¬ (j ≡ k)
      off j (inl h) e = omega arith
      off j (inr h) e = omega arith

      nearer : (j : ℕ) → (j < at) ⊎ (at + (i + 1) ≤ j) → (j < at) ⊎ (at + i ≤ j)
      nearer j (inl h) = inl h
      nearer j (inr h) = inr (omega arith)

  pub entries_all : {i n : ℕ} {new : List ℕ} → i ≡ n → Entries at i f old new → Entries at n f old new
  entries_all {new = new} e w = subst (λ k. Entries at k f old new) e w

module _ {at n : ℕ} {f g : ℕ → ℕ} {old new : List ℕ} where
  -- the same entries
  pub entries_as : ((s : ℕ) → s < n → f s ≡ g s) → Entries at n f old new → Entries at n g old new
  entries_as e w = record { size = w.size; here = λ s l. w.here s l ∙ e s l; elsewhere = w.elsewhere }

  -- the last writing stands
  pub entries_again : {mid : List ℕ} → Entries at n f old mid → Entries at n g mid new → Entries at n g old new
  entries_again w v =
      record {
        size = v.size ∙ w.size;
        here = v.here;
        elsewhere = λ j o. v.elsewhere j o ∙ w.elsewhere j o;
      }
