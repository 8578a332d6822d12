-- Check and count fill alike: their tables differ in rows 63 and 18, which are not met, and the same number leaves the
-- same marks.
use mathlib.Core.Path.{◌≡◌, refl, sym, ap, ◌∙◌}
use mathlib.Core.Bool.{Bool, true, false}
use mathlib.Core.List.{List, [], ◌∷◌, ◌++◌, append_assoc}
use mathlib.Core.Option.{none, some}
use Prim.Native.Nat.{ℕ, ◌*◌, ◌≤◌}
use lib.ListN.{length}
use lib.Dec.{ltb}
use borrow.Author.Tests.{le-ltb}
use Rattle.outcome.specs.declared.Outcome.{Outcome}
use Rattle.outcome.specs.Refusal.{Row, row, refuse, whole, first}
use Rattle.outcome.proofs.First.{Numbered, first_passed, part_passes, zero_iff}
use Rattle.chart.specs.Bytes.{state_count}
use Rattle.chart.specs.Refusals.{chart_table}
use Rattle.rule.specs.Bytes.{node_count}
use Rattle.rule.specs.Refusals.{rule_table, bound_row}
use Rattle.loops.specs.Refusal.{loop_row}
use Rattle.room.specs.Room.{room_table}
use Rattle.judge.specs.Judge.{size_of, own_rows, judge_table, judge_refusal, marks_after}
use Rattle.judge.proofs.Chain.{own_iff}
use Rattle.rule.specs.Refusals.{ShortBounds}
use Rattle.claim_demands.specs.FillsAlike.{FillsAlike}

-- behind the same rows, tables that answer the same
front_same : (xs ys zs : List Row) → first ys ≡ first zs → first (xs ++ ys) ≡ first (xs ++ zs)
unfolding first
front_same [] ys zs e = e
front_same (row c n none ∷ xs) ys zs e = front_same xs ys zs e
front_same (row c n (some p) ∷ xs) ys zs e = refl

own_numbered : (counting : Bool) (rule : List ℕ) → Numbered (own_rows counting rule)
unfolding bound_row
own_numbered true rule = tt
own_numbered false rule = tt

-- row 63 is passed over where no bound is above 255
own_passed :
    (counting : Bool) (rule : List ℕ) → ShortBounds rule → (rest : List Row) →
    first (own_rows counting rule ++ rest) ≡ first rest
own_passed counting rule short rest =
    let rows = own_rows counting rule in
    let numbered = own_numbered counting rule in
    sym (part_passes rows rest numbered refl ((zero_iff rows numbered).1 ((own_iff counting rule).1 (λ _. short))) refl)

module _ (chart rule marks : List ℕ) where
  abbrev formats : List Row
  formats = chart_table chart ++ rule_table rule

  abbrev row_17 : Row
  row_17 = refuse 17 (whole (ltb (length marks) (node_count rule * state_count chart)))

  -- either answers by the rows that both have
  shared :
      (counting : Bool) (scratch : List ℕ) → ShortBounds rule → size_of counting chart rule ≤ length scratch →
      judge_refusal counting chart rule marks scratch ≡ first (formats ++ row_17 ∷ loop_row chart ∷ [])
  unfolding judge_table
  shared counting scratch short room =
      let own = own_rows counting rule in
      let rooms = room_table (state_count chart) (node_count rule) (size_of counting chart rule) marks scratch in
      let last = loop_row chart ∷ [] in
      ap first (append_assoc (formats ++ own) rooms last ∙ append_assoc formats own (rooms ++ last)) ∙
      front_same formats _ _
      (own_passed counting rule short _ ∙
      front_same (row_17 ∷ []) _ _ (first_passed 18 _ last (ap whole (le-ltb _ _ room))))

pub fills_alike : FillsAlike
fills_alike chart rule marks scratch scratch' r r' newMarks new_scratch newMarks' newScratch' c d =
    record {
      same = λ short room room'.
          let checked = c.answer ∙ shared chart rule marks false scratch short room in
          let counted = d.answer ∙ shared chart rule marks true scratch' short room' in
          let e = checked ∙ sym counted in
          (e, marks_same (ap (λ (o : Outcome). o.number) e));
      accepted = λ z z'. marks_same (z ∙ sym z');
    }
  where
    marks_same : r.number ≡ r'.number → newMarks ≡ newMarks'
    marks_same e = c.written ∙ ap (λ i. marks_after chart rule i marks) e ∙ sym d.written
