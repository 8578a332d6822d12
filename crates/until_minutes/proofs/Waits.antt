-- Waits one after another: what row t says after k of them is who makes the until with no bound after k waits.
use mathlib.Core.Path.{◌≡◌, refl, sym, ap, ap₂, subst, ◌∙◌}
use mathlib.Core.Bool.{Bool, true}
use mathlib.Core.List.{List}
use Prim.Native.Nat.{ℕ, suc, ◌+◌, ◌-◌, ◌≤◌, ◌<◌}
use native.Mathlib.Omega.{arith}
use lib.ListN.{length}
use Rattle.tctl.specs.Formula.{at_most}
use Rattle.model.specs.Marks.{bit, mark}
use Rattle.model.proofs.Marks.{bit_says}
use Rattle.base.proofs.Same.{Same}
use Rattle.tctl.proofs.Drawn.{Joins}
use Rattle.chart.specs.Bytes.{chart_of}
use Rattle.rule.specs.declared.NodeWords.{NodeWords}
use Rattle.fill.specs.Written.{RowWritten}
use Rattle.operands.specs.FromOperands.{OperandsBelow, Besides}
use Rattle.operands.proofs.Rows.{written_besides, besides_lower, besides_again}
use Rattle.minutes.specs.Untils.{plain}
use Rattle.minutes.proofs.Same.{task_same, makes_same, plain_still}
use Rattle.moves.specs.declared.Ends.{Ends}
use Rattle.moves.specs.Moves.{is_open, Collected}
use Rattle.until_minutes.specs.Minutes.{MinutesLent, Says, plain_asked, makes_by, open_by, WaitReady, Waited}
use Rattle.until_minutes.proofs.Alike.{collected_same}
use Rattle.until_minutes.proofs.Lent.{lent_still}

module _ (all : Bool) (chart : List ℕ) (n t : ℕ) (w : NodeWords) (old : List ℕ) where
  -- the until with no bound after k waits, of the operands' marks
  abbrev pub after : ℕ → ℕ → Bool
  after k = plain (chart_of chart).arrows n all (mark n old w.a) (mark n old w.b) k

  -- so many waits are done
  pub record Waits (k : ℕ) (marks : List ℕ) : Type 0 where
    pub besides : Besides n t old marks
    pub says : Says n t (after k) marks

  pub waits_none : Says n t (λ s. all) old → Waits 0 old
  unfolding plain
  waits_none f = record { besides = record { size = refl; elsewhere = λ j o. refl }; says = f }

  -- what is promised of row t
  pub waits_written :
      {k : ℕ} {marks : List ℕ} → Waits k marks → ((s : ℕ) → s < n → after k s ≡ after n s) →
      RowWritten n t (after n) old marks
  waits_written x e =
      record {
        size = x.besides.size;
        here = λ s l. x.says s l ∙ ap bit (e s l);
        elsewhere = x.besides.elsewhere;
      }

  -- one wait more may be made: the operands' rows stay, so the arrows that were collected serve
  pub waits_ready :
      {k m : ℕ} {marks numbers numbers' words : List ℕ} {ends : Ends} → Waits k marks →
      MinutesLent chart n m t w old numbers → length numbers' ≡ length numbers → length words ≡ 2048 →
      Collected chart (open_by n w old) ends words → WaitReady chart n t w ends words marks numbers'
  waits_ready {marks = marks} {numbers' = numbers'} x l size long c =
      let p = besides_lower x.besides l.operands.left in
      let q = besides_lower x.besides l.operands.right in
      record {
        lent =
            subst (λ i. MinutesLent chart n i t w marks numbers') l.passed.arrows
            (lent_still l x.besides.size size);
        long = long;
        collected = collected_same l.passed (λ s h. sym (ap₂ (is_open true) (p s h) (q s h))) c;
      }

  module _
      (joins : Joins n (chart_of chart).arrows)
      (low : OperandsBelow t w)
      {k : ℕ}
      {marks : List ℕ}
      (x : Waits k marks) where
    -- The operands' rows stay, and the row beyond says what was found before: so who makes it with no minute left is who
    -- makes the until with no bound after one wait more.
    next : (s : ℕ) → s < n → makes_by (plain_asked all) chart n t w marks 1 s ≡ after (suc k) s
    unfolding plain
    next =
        makes_same joins
        (task_same n all (at_most 0) (besides_lower x.besides low.left) (besides_lower x.besides low.right)
        (λ s l. bit_says (after k s) (x.says s l))) 1

    module _ {r : Bool} {new : List ℕ} (y : Waited all chart n t w r marks new) where
      pub waits_more : Waits (suc k) new
      waits_more =
          record {
            besides = besides_again x.besides (written_besides y.written);
            says = λ s l. y.written.here s l ∙ ap bit (next s l);
          }

      -- where row t says the same, it says so after any further wait
      pub waits_still : r ≡ true → k ≤ n → (s : ℕ) → s < n → after (suc k) s ≡ after n s
      waits_still e h s l =
          let same : Same n (after (suc k)) (after k) =
          λ v i. sym (next v i) ∙ y.still e v i ∙ bit_says (after k v) (x.says v i) in
          let all_waits : k + (n - k) ≡ n = omega arith in
          same s l ∙
          sym (subst (λ j. after j s ≡ after k s) all_waits (plain_still joins all _ _ k same (n - k) s l))
