-- Which states the first arrows leave, one arrow after the other.
use mathlib.Core.Path.{◌≡◌, refl, sym, ap, ap₂, ◌∙◌}
use mathlib.Core.Logic.{by_cases}
use mathlib.Core.Bool.{Bool, true, false, ◌||◌}
use mathlib.Core.List.{List}
use mathlib.Core.Option.{Option, none, some}
use Prim.Native.Nat.{ℕ, suc, ◌/◌, ◌%◌, ◌<◌}
use native.Mathlib.Omega.{arith}
use native.Mathlib.Decide.{ℕ_discrete}
use lib.ListN.{get_or, set, replicate, get_or-replicate, length-set}
use lib.Seq.{get_or-set_same, get_or-set_other}
use lib.Dec.{eqb}
use borrow.Author.Tests.{eq-eqb, ne_eqb}
use Rattle.masks.specs.Member.{member, Put}
use Rattle.masks.proofs.Member.{member_none}
use Rattle.outcome.specs.Refusal.{found, or_else, lowest}
use Rattle.chart.specs.Bytes.{arrow_words}
use Rattle.chart.specs.Refusals.{left_by}
use Rattle.chart_refusals.specs.Leaves.{Leaves}

found_or : (o : Option ℕ) (b : Bool) (i : ℕ) → found (or_else o b i) ≡ (b || found o)
found_or (some j) true i = refl
found_or (some j) false i = refl
found_or none true i = refl
found_or none false i = refl

-- numbers in one set are told apart by their places in it
same_place : (u v : ℕ) → v / 64 ≡ u / 64 → eqb (u % 64) (v % 64) ≡ eqb u v
same_place u v e =
    by_cases (ℕ_discrete u v)
    (λ d. eq-eqb (u % 64) (v % 64) (omega arith) ∙ sym (eq-eqb u v d))
    (λ d. ne_eqb (u % 64) (v % 64) (λ f. d (omega arith)) ∙ sym (ne_eqb u v d))

module _ (s : List ℕ) where
  left_next : (i v : ℕ) → left_by s (suc i) v ≡ (eqb (arrow_words s i).start v || left_by s i v)
  unfolding left_by lowest
  left_next i v = found_or (lowest (λ j. eqb (arrow_words s j).start v) i) _ i

  pub left_none : Leaves s 0 (replicate 4 0)
  unfolding left_by lowest
  left_none =
      record {
        size = refl;
        tells = λ v l. ap (λ w. member w (v % 64)) (get_or-replicate 4 (v / 64) 0 0 (omega arith)) ∙ member_none (v % 64);
      }

  -- The sets after arrow i, which leaves u: in the set of u the place of u is put, and the other sets stay.
  pub left_put :
      {i u new : ℕ} {left : List ℕ} → (arrow_words s i).start ≡ u → u < 256 → Put (u % 64) (get_or left (u / 64) 0) new →
      Leaves s i left → Leaves s (suc i) (set left (u / 64) new)
  left_put {i} {u} {new} {left} e l p h =
      record {
        size = length-set left (u / 64) new ∙ h.size;
        tells = λ v k. by_cases (ℕ_discrete (v / 64) (u / 64)) (here v k) (other v k) ∙ sym (next v);
      }
    where
      next : (v : ℕ) → left_by s (suc i) v ≡ (eqb u v || left_by s i v)
      next v = left_next i v ∙ ap (λ x. eqb x v || left_by s i v) e

      here :
          (v : ℕ) → v < 256 → v / 64 ≡ u / 64 →
          member (get_or (set left (u / 64) new) (v / 64) 0) (v % 64) ≡ (eqb u v || left_by s i v)
      here v k d =
          ap (λ q. member (get_or (set left (u / 64) new) q 0) (v % 64)) d ∙
          ap (λ w. member w (v % 64)) (get_or-set_same left (u / 64) new 0 (omega (arith, h.size))) ∙
          p.tells (v % 64) ∙
          ap₂ ◌||◌ (same_place u v d) (ap (λ q. member (get_or left q 0) (v % 64)) (sym d) ∙ h.tells v k)

      other :
          (v : ℕ) → v < 256 → ¬ (v / 64 ≡ u / 64) →
          member (get_or (set left (u / 64) new) (v / 64) 0) (v % 64) ≡ (eqb u v || left_by s i v)
      other v k d =
          ap (λ w. member w (v % 64)) (get_or-set_other left (u / 64) (v / 64) new 0 d) ∙
          h.tells v k ∙
          ap (λ b. b || left_by s i v) (sym (ne_eqb u v (λ f. d (omega arith))))
