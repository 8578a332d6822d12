-- The arrow that is taken: the lowest that passes the test, by the words that are read.
use mathlib.Core.Path.{◌≡◌, refl, sym, subst, ap, ◌∙◌}
use mathlib.Core.Bool.{Bool, true, false, ◌&&◌, false≢true}
use mathlib.Core.List.{List}
use mathlib.Core.Option.{Option, none, some}
use Prim.Native.Nat.{ℕ, ◌+◌, ◌<◌}
use lib.Dec.{eqb}
use borrow.Author.Tests.{eq-eqb, ne_eqb}
use Rattle.outcome.specs.Refusal.{lowest}
use Rattle.outcome.proofs.Lowest.{Least, none_below, lowest_some, lowest_none, some_lowest}
use Rattle.model.specs.Engine.{num}
use Rattle.chart.specs.declared.ArrowWords.{ArrowWords}
use Rattle.chart.specs.Bytes.{arrow_count, arrow_words, arrow_of}
use Rattle.shown.specs.Exact.{or_number}
use Rattle.step_numbers.specs.declared.Measure.{Measure}
use Rattle.step_numbers.specs.Stored.{weight_of, settled_of}
use Rattle.run_walk.specs.Walk.{is_tight, tight_arrow}

module _ (measure : Measure) (chart : List ℕ) (n : ℕ) (table : List ℕ) (at s : ℕ) where
  abbrev tight : ℕ → Bool
  tight = is_tight measure chart n table at s

  -- what the arrow with the words w makes, and the test of it
  abbrev made_by : ArrowWords → ℕ
  made_by w = settled_of measure (num table (at + w.end) + weight_of measure (arrow_of w))

  abbrev tight_by : ArrowWords → Bool
  tight_by w = eqb w.start s && eqb (made_by w) (num table (at + n + s))

  -- the arrow makes r, by the weight x that is found
  abbrev Makes : ArrowWords → ℕ → Type 0
  Makes w r = (x : ℕ) × (x ≡ weight_of measure (arrow_of w)) × (r ≡ settled_of measure (num table (at + w.end) + x))

  makes : (w : ArrowWords) {r : ℕ} → Makes w r → made_by w ≡ r
  makes w f = sym (f.2 ∙ ap (λ x. settled_of measure (num table (at + w.end) + x)) f.1)

  module _ (i : ℕ) {w : ArrowWords} (read : w ≡ arrow_words chart i) where
    told : {b : Bool} → tight_by w ≡ b → tight i ≡ b
    told {b} = subst (λ x. tight_by x ≡ b) read

    -- an arrow that makes another number does not pass
    pub passed_over :
        w.start ≡ s → {r : ℕ} → Makes w r → ¬ (r ≡ num table (at + n + s)) →
        is_tight measure chart n table at s i ≡ false
    passed_over e f o =
        told (rw (eq-eqb w.start s e) (ne_eqb (made_by w) _ (λ h. o (sym (makes w f) ∙ h))))

    -- the first that passes is the one that is taken
    pub tight_found :
        w.start ≡ s → {r : ℕ} → Makes w r → r ≡ num table (at + n + s) → i < arrow_count chart →
        ((j : ℕ) → j < i → is_tight measure chart n table at s j ≡ false) → i ≡ tight_arrow measure chart n table at s
    unfolding tight_arrow
    tight_found e f o l under =
        let here : tight i ≡ true = told (rw (eq-eqb w.start s e) (eq-eqb (made_by w) _ (makes w f ∙ o))) in
        ap (or_number 0)
        (sym (lowest_some tight (record { inside = l; offends = here; under = under })))

  -- an arrow from elsewhere does not pass
  pub tight_others :
      (j : ℕ) → ¬ ((arrow_words chart j).start ≡ s) → is_tight measure chart n table at s j ≡ false
  tight_others j e = rw (ne_eqb (arrow_words chart j).start s e)

  pub tight_none :
      ((i : ℕ) → i < arrow_count chart → is_tight measure chart n table at s i ≡ false) →
      0 ≡ tight_arrow measure chart n table at s
  unfolding tight_arrow
  tight_none h = ap (or_number 0) (sym (lowest_none tight (arrow_count chart) h))

  -- if an arrow passes, the one that is taken is the lowest that does: there is one, so it is no 0 for none
  pub tight_least :
      (i : ℕ) → i < arrow_count chart → is_tight measure chart n table at s i ≡ true →
      Least (is_tight measure chart n table at s) (arrow_count chart) (tight_arrow measure chart n table at s)
  unfolding tight_arrow
  tight_least i l e = turn (lowest tight (arrow_count chart)) refl
    where
      turn :
          (o : Option ℕ) → lowest tight (arrow_count chart) ≡ o →
          Least tight (arrow_count chart) (or_number 0 o)
      turn none h = absurd (false≢true (sym (none_below tight (arrow_count chart) h i l) ∙ e))
      turn (some j) h = some_lowest tight (arrow_count chart) j h
