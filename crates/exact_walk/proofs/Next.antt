-- The arrow that is taken: the first that serves, by the words that are read.
use mathlib.Core.Path.{◌≡◌, sym, ap, subst, ◌∙◌}
use mathlib.Core.Bool.{Bool, true, false, false≢true}
use mathlib.Core.List.{List}
use mathlib.Core.Option.{Option, none, some}
use Prim.Native.Nat.{ℕ, ◌<◌}
use borrow.Author.Tests.{eq-eqb, ne_eqb}
use Rattle.outcome.specs.Refusal.{found}
use Rattle.chart.specs.declared.ArrowWords.{ArrowWords}
use Rattle.chart.specs.Bytes.{arrow_count, arrow_words, arrow_of, chart_of}
use Rattle.chart.proofs.Chart.{arrow_of_lem}
use Rattle.shown.specs.Exact.{Onward, first_minutes, serves}
use Rattle.shown.specs.Steps.{first_arrow}
use Rattle.shown.proofs.Best.{first_lowest}
use Rattle.shown.proofs.Serves.{serves_iff}
use Rattle.exact_walk.specs.Walk.{steps_in}

module _ (chart : List ℕ) (n : ℕ) (table : List ℕ) (left minutes s : ℕ) where
  -- arrow i serves
  abbrev pub serves_at : ℕ → Bool
  serves_at i = serves (steps_in n table left) minutes s (arrow_of (arrow_words chart i))

  -- one from elsewhere does not
  pub serves_others :
      (j : ℕ) → ¬ ((arrow_words chart j).start ≡ s) → serves_at j ≡ false
  serves_others j e = rw (ne_eqb (arrow_words chart j).start s e)

  module _ (i : ℕ) {a : ArrowWords} (read : a ≡ arrow_words chart i) (leaves : a.start ≡ s) where
    told : {b : Bool} → serves (steps_in n table left) minutes s (arrow_of a) ≡ b → serves_at i ≡ b
    told {b} = subst (λ w. serves (steps_in n table left) minutes s (arrow_of w) ≡ b) read

    -- it serves just where it has minutes that do
    served :
        (o : Option ℕ) → first_minutes (steps_in n table left) minutes (arrow_of a) ≡ o → serves_at i ≡ found o
    served o e = told (rw (eq-eqb a.start s leaves) (ap found e))

    pub serves_found :
        {d : ℕ} → first_minutes (steps_in n table left) minutes (arrow_of a) ≡ some d → serves_at i ≡ true
    serves_found {d} = served (some d)

    pub serves_not : first_minutes (steps_in n table left) minutes (arrow_of a) ≡ none → serves_at i ≡ false
    serves_not = served none

  -- the first that serves is taken
  pub next_found :
      (i : ℕ) → i < arrow_count chart → serves_at i ≡ true → ((j : ℕ) → j < i → serves_at j ≡ false) →
      arrow_of (arrow_words chart i) ≡ first_arrow (serves (steps_in n table left) minutes s) (chart_of chart).arrows
  unfolding chart_of
  next_found i l e under =
      sym (first_lowest (serves (steps_in n table left) minutes s) (arrow_count chart) i (λ j. arrow_of (arrow_words chart j)) l
      e under)

  -- and one does, where an arrow leads on
  pub next_some :
      Onward (chart_of chart).arrows (steps_in n table left) minutes s →
      ¬ ((j : ℕ) → j < arrow_count chart → serves_at j ≡ false)
  next_some w never =
      let x = arrow_of_lem chart w.arrow w.drawn in
      let yes = (serves_iff (steps_in n table left) minutes w.arrow s).1 (w.minutes, w.serves) in
      false≢true (sym (never x.0 x.1) ∙ subst (λ a. serves (steps_in n table left) minutes s a ≡ true) x.2 yes)
