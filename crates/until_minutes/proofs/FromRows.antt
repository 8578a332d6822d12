-- Row t, written from the rows by minutes over the row beyond, is the until's.
use mathlib.Core.Path.{◌≡◌, sym, ap, subst, ◌∙◌}
use mathlib.Core.Bool.{Bool, true, false, cond}
use mathlib.Core.Bool.{not as neg}
use mathlib.Core.List.{List}
use Prim.Native.Nat.{ℕ, suc}
use Rattle.tctl.specs.Formula.{Bound, at_most, at_least, exactly}
use Rattle.model.specs.Marks.{mark}
use Rattle.model.proofs.Marks.{bit_says}
use Rattle.tctl.proofs.Drawn.{Joins}
use Rattle.chart.specs.Bytes.{chart_of}
use Rattle.rule.specs.declared.NodeWords.{NodeWords}
use Rattle.fill.specs.Written.{RowWritten}
use Rattle.operands.specs.FromOperands.{OperandsBelow, FromOperands}
use Rattle.operands.proofs.Rows.{written_as, written_again, written_besides, lower_row}
use Rattle.minutes.specs.Makes.{Task}
use Rattle.minutes.specs.Table.{makes}
use Rattle.minutes.specs.Untils.{row_of, task_of, beyond_of, counted}
use Rattle.minutes.proofs.Beyond.{makes_beyond}
use Rattle.minutes.proofs.Same.{task_same, makes_same, counted_same}
use Rattle.minute_rows.specs.declared.Met.{Met}
use Rattle.minute_rows.specs.declared.Met.TheVariants.{Always, AtEnd}
use Rattle.until_minutes.specs.Minutes.{makes_by, mark_of}

module _ (all : Bool) (chart : List ℕ) (n t : ℕ) (w : NodeWords) (old : List ℕ) where
  -- beyond the bound, by the operands' rows, and what is asked then
  abbrev beyond : Bound → ℕ → Bool
  beyond b = beyond_of (chart_of chart).arrows n all b (mark n old w.a) (mark n old w.b)

  abbrev task : Bound → Task
  task b = task_of all b (mark n old w.a) (mark n old w.b) (beyond b)

  module _ (joins : Joins n (chart_of chart).arrows) (low : OperandsBelow t w) (b : Bound) where
    -- the rows of the operands stay, and row t was the row beyond
    pub from_rows :
        {count : ℕ} → count ≡ row_of b → {mid new : List ℕ} → RowWritten n t (beyond b) old mid →
        RowWritten n t
        (λ s.
        mark_of all
        (makes (chart_of chart).arrows n (task_of all b (mark n mid w.a) (mark n mid w.b) (mark n mid t)) count s))
        mid new →
        FromOperands (counted all b) chart n t w old new
    from_rows {count} e x y =
        written_again (written_besides x)
        (written_as y
        (λ s l.
        ap (mark_of all)
        (makes_same joins
        (task_same n all b (lower_row x low.left) (lower_row x low.right)
        (λ v i. bit_says (beyond b v) (x.here v i))) count s l ∙
        ap (λ r. makes (chart_of chart).arrows n (task b) r s) e)))

    -- written from marks that had another row t
    pub from_later :
        {f : ℕ → Bool} {mid new : List ℕ} → RowWritten n t f old mid → FromOperands (counted all b) chart n t w mid new →
        FromOperands (counted all b) chart n t w old new
    from_later x y =
        written_again (written_besides x)
        (written_as y (counted_same joins all (lower_row x low.left) (lower_row x low.right) b))

  -- At most c, or exactly c: beyond it nobody meets it, and everybody fails it. When it is met does not go by c.
  pub from_last :
      Joins n (chart_of chart).arrows → OperandsBelow t w → (most : Bool) {c : ℕ} {met : Met} → met ≡ cond most Always AtEnd →
      {count : ℕ} → count ≡ suc c → {mid new : List ℕ} → RowWritten n t (λ s. all) old mid →
      RowWritten n t (λ s. mark_of all (makes_by (record { all = all; met = met }) chart n t w mid count s)) mid new →
      FromOperands (counted all (cond most (at_most c) (exactly c))) chart n t w old new
  from_last joins low most {c} {met} m {count} e {mid} {new} x y = turn most (subst Rows m y)
    where
      Rows : Met → Type 0
      Rows v = RowWritten n t (λ s. mark_of all (makes_by (record { all = all; met = v }) chart n t w mid count s)) mid new

      turn :
          (most : Bool) → Rows (cond most Always AtEnd) →
          FromOperands (counted all (cond most (at_most c) (exactly c))) chart n t w old new
      turn true z = from_rows joins low (at_most c) e x z
      turn false z = from_rows joins low (exactly c) e x z

  -- at least 0 has no row but the row beyond
  module _ {c : ℕ} (none : c ≡ 0) where
    from_beyond :
        {new : List ℕ} → RowWritten n t (λ s. mark_of all (beyond (at_least 0) s)) old new →
        FromOperands (counted all (at_least c)) chart n t w old new
    from_beyond {new} y =
        subst (λ c. FromOperands (counted all (at_least c)) chart n t w old new) (sym none)
        (written_as y
        (λ s l. ap (mark_of all) (sym (makes_beyond (chart_of chart).arrows n (task (at_least 0)) s))))

    -- to meet it: as it stands
    pub from_met :
        all ≡ false → {mid : List ℕ} → RowWritten n t (beyond (at_least c)) old mid →
        FromOperands (counted all (at_least c)) chart n t w old mid
    from_met e x = from_beyond (written_as x (λ s l. sym (ap (λ a. mark_of a (beyond (at_least 0) s)) e)))

    -- to fail it: negated
    pub from_failed :
        all ≡ true → {mid new : List ℕ} → RowWritten n t (beyond (at_least c)) old mid →
        RowWritten n t (λ s. neg (mark n mid t s)) mid new → FromOperands (counted all (at_least c)) chart n t w old new
    from_failed e x y =
        from_beyond
        (written_again (written_besides x)
        (written_as y
        (λ s l.
        ap neg (bit_says (beyond (at_least 0) s) (x.here s l)) ∙ sym (ap (λ a. mark_of a (beyond (at_least 0) s)) e))))
