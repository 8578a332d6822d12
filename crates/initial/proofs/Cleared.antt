-- Numbers cleared arrow by arrow: values stay from whose states every arrow so far leads to where good holds.
use mathlib.Core.Path.{◌≡◌, refl, sym, ap, subst, ◌∙◌}
use mathlib.Core.Logic.{by_cases, ⊎_elim}
use mathlib.Core.Bool.{Bool, true, false, cond, not, ◌&&◌, ◌||◌, and-true, and_assoc, false≢true}
use mathlib.Core.List.{List}
use Prim.Native.Nat.{ℕ, zero, suc, ◌+◌, ◌<◌}
use native.Mathlib.Omega.{arith}
use native.Mathlib.Decide.{ℕ_discrete}
use lib.Dec.{eqb}
use lib.ListN.{length, get_or, set, length-set}
use lib.Seq.{get_or-set_same, get_or-set_other}
use borrow.Author.Tests.{eq-eqb, ne_eqb}
use Rattle.base.proofs.Truth.{true_or_false, or_false}
use Rattle.tctl.specs.Chart.{Arrow}
use Rattle.base.specs.Tabulate.{tabulate}
use Rattle.base.specs.Every.{every}
use Rattle.model.specs.Engine.{num}
use Rattle.model.specs.Decide.{leads_to}
use Rattle.model.specs.Marks.{flag}
use Rattle.base.proofs.Every.{every_false}
use Rattle.chart.specs.declared.ArrowWords.{ArrowWords}
use Rattle.chart.specs.Bytes.{arrow_count, arrow_words, arrow_of, chart_of}
use Rattle.chart.specs.Shape.{Passed}
use Rattle.chart.proofs.Reading.{drawn, has_states}
use Rattle.hints.specs.Values.{tested_of}
use Rattle.ways.specs.Way.{top, beside}
use Rattle.initial.specs.Initial.{Chosen}
use Rattle.initial.specs.Filled.{Sured}

-- the first i arrows of a chart's bytes
abbrev first_arrows : List ℕ → ℕ → List Arrow
first_arrows chart i = tabulate i (λ j. arrow_of (arrow_words chart j))

-- the top and its side
abbrev full : ℕ
full = beside top true

-- the first i arrows were tried
pub record Cleared (chart good : List ℕ) (i : ℕ) (old new : List ℕ) : Type 0 where
  pub size : length new ≡ length old
  pub here :
      (s : ℕ) → s < length old →
      tested_of (num new s) ≡ cond (leads_to (first_arrows chart i) (flag good) s) (tested_of (num old s)) full

-- one entry more is one test more, at the end
every_more :
    {A : Type 0} (f : A → Bool) (i : ℕ) (g : ℕ → A) →
    every f (tabulate (suc i) g) ≡ (every f (tabulate i g) && f (g i))
unfolding every tabulate
every_more f zero g = and-true (f (g 0))
every_more f (suc i) g =
    let rest = every f (tabulate i (λ j. g (suc j))) in
    ap (λ b. f (g 0) && b) (every_more f i (λ j. g (suc j))) ∙ sym (and_assoc (f (g 0)) rest (f (g (suc i))))

-- a number cleared twice, by two tests, is cleared by both together
cleared_twice : (b g : Bool) (v : ℕ) → cond g (cond b v full) full ≡ cond (b && g) v full
cleared_twice true true v = refl
cleared_twice true false v = refl
cleared_twice false true v = refl
cleared_twice false false v = refl

-- after an arrow was tried, each number is kept or cleared as the arrow asks too: its start's by the test of its end;
-- any other is untouched, and of it the arrow asks nothing
kept :
    (vs : List ℕ) (start v s was : ℕ) (b g : Bool) → start < length vs →
    tested_of v ≡ cond g (tested_of (num vs start)) full → tested_of (num vs s) ≡ cond b was full →
    tested_of (num (set vs start v) s) ≡ cond (b && (not (eqb start s) || g)) was full
kept vs start v s was b g l is h =
    by_cases (ℕ_discrete s start)
    (λ e. rw (eq-eqb start s (sym e))
    (ap tested_of (ap (num (set vs start v)) e ∙ get_or-set_same vs start v 0 l) ∙ is ∙
    ap (λ u. cond g (tested_of (num vs u)) full) (sym e) ∙ ap (λ x. cond g x full) h ∙ cleared_twice b g was))
    (λ e. rw (ne_eqb start s (λ f. e (sym f)), and-true b)
    (ap tested_of (get_or-set_other vs start s v 0 e) ∙ h))

-- the number that stays, or the full one
pub chosen :
    {g : Bool} {x y r : ℕ} → Chosen g x y r → tested_of y ≡ full → tested_of r ≡ cond g (tested_of x) full
chosen {g = true} c h = ap tested_of c.is
chosen {g = false} c h = ap tested_of c.is ∙ h

module _ {chart good old : List ℕ} where
  pub cleared_none : Cleared chart good 0 old old
  unfolding every tabulate
  cleared_none = record { size = refl; here = λ s l. refl }

  pub cleared_all : {i m : ℕ} {new : List ℕ} → i ≡ m → Cleared chart good i old new → Cleared chart good m old new
  cleared_all {new = new} e w = subst (λ k. Cleared chart good k old new) e w

  pub cleared_more :
      (v : ℕ) {i : ℕ} {new : List ℕ} {a : ArrowWords} → Cleared chart good i old new → a ≡ arrow_words chart i →
      a.start < length new → tested_of v ≡ cond (flag good a.end) (tested_of (num new a.start)) full →
      Cleared chart good (i + 1) old (set new a.start v)
  cleared_more v {i} {new} {a} w e l is = cleared_all (omega arith) more
    where
      asks : ℕ → Arrow → Bool
      asks s x = not (eqb x.start s) || flag good x.end

      more : Cleared chart good (suc i) old (set new a.start v)
      more =
          record {
            size = length-set new a.start v ∙ w.size;
            here =
                λ s k.
                let all = leads_to (first_arrows chart i) (flag good) s in
                let was = tested_of (num old s) in
                kept new a.start v s was all (flag good a.end) l is (w.here s k) ∙
                ap (λ (x : ArrowWords). cond (all && asks s (arrow_of x)) was full) e ∙
                ap (λ b. cond b was full) (sym (every_more (asks s) i (λ j. arrow_of (arrow_words chart j))));
          }

  pub cleared_sured :
      {n : ℕ} {new : List ℕ} → Cleared chart good (arrow_count chart) old new → length old ≡ n →
      Sured chart n good old new
  unfolding chart_of
  cleared_sured w e = record { size = w.size ∙ e; here = λ s l. w.here s (omega (arith, e)) }

-- good holds everywhere, so every arrow leads to where it does
pub sured_all :
    (good : List ℕ) {chart ns : List ℕ} {n m : ℕ} → Passed chart n m → length good ≡ n → length ns ≡ n →
    ((s : ℕ) → s < length good → get_or good s 0 ≡ 1) → Sured chart n good ns ns
sured_all good {chart} {ns} passed size many ones =
    record {
      size = many;
      here = λ s l. ap (λ b. cond b (tested_of (num ns s)) full) (sym (leads s));
    }
  where
    asks : ℕ → Arrow → Bool
    asks s a = not (eqb a.start s) || flag good a.end

    leads : (s : ℕ) → every (asks s) (chart_of chart).arrows ≡ true
    leads s =
        ⊎_elim (λ e. e)
        (λ e.
        let w = every_false (asks s) (chart_of chart).arrows e in
        let end : w.0.end < length good = omega (arith, (drawn passed).ends w.0 w.1, has_states passed, size) in
        let ill = (or_false (not (eqb w.0.start s)) (flag good w.0.end) w.2).1 in
        absurd (false≢true (sym ill ∙ eq-eqb _ 1 (ones w.0.end end))))
        (true_or_false (every (asks s) (chart_of chart).arrows))
